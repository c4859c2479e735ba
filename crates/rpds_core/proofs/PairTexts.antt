-- The texts of pairs, made of the references that a walk gives.
use Rattle.std.proofs.Common.{◌≡◌, List, ◌∷◌, Option, None, Some, ap, ◌∙◌}
use denote.Param.Members.{Mut, Called}
use Rattle.std.specs.Iterator.Adapters.{map_steps, map_source}
use Rattle.rpds_core.specs.Sequence.{ShowsList}

-- a walk whose items are made into others that show the same is seen as the same list
pub shows_mapped : {S F A B T : Type 0} {gives : S → Option A → S → Type 0} {g : Mut F (A × Unit {0}) B} {see : A → T} {rest : S → List T} (seen : B → T)
    → ((f f' : F) (x : A) (y : B) → Called g f (x, tt) y f' → see x ≡ seen y)
    → ShowsList gives see rest → ShowsList (map_steps gives g) seen (λ s. rest (map_source s))
shows_mapped seen agrees shows old None new steps = shows (map_source old) None (map_source new) steps.0
shows_mapped {rest = rest} seen agrees shows old (Some y) new steps =
    shows (map_source old) (Some steps.0) (map_source new) steps.1 ∙ ap (λ l. l ∷ rest (map_source new)) (agrees old.f new.f steps.0 y steps.2)

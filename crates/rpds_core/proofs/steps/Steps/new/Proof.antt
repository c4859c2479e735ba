use Rattle.rpds_core.proofs.Walks.{[], ◌∷◌, refl, proved, ftrue, ‵, ◌⊛◌, ◌$◌, ◌∵◌, !, qed, keep, fjoin, join, suffices, frame, enter, no_more, agg, returns, alloc_all, pass_all, free_all, look_at, sets, nothing, Stays, walk_of, ends_at, none, made, tells, tells_last}
use Rattle.rpds_core.specs.contracts.steps.Steps.new as f
use Rattle.rpds_core.proofs.steps.Steps.new.Statement.{statement}
use Rattle.rpds_core.proofs.steps.Steps.new.Code as code

abbrev stayed : Stays f.ended.signature.params f.ended.kept
stayed = tt

pub new_spec : {M : Type 1} → statement M
new_spec 𝓤 𝓛 𝓜 𝓡 wired =
    let c = f.clauses 𝓛 𝓜.mem 𝓡.returns in let W = walk_of 𝓛 f.ended stayed c in
    proved 𝓛 f.ended stayed c 𝓜 𝓡 tt
    f.Key.name code.function (code.unfolded 𝓤 𝓛.H 𝓜 𝓡 wired)
    (λ κs. tt) (λ κs. tt) (λ κs qs bounds a _ are.
    let y : W.Ghost = ((κs, qs, bounds, a, tt), tt) in
    qed 𝓛 ((‵ ftrue ⊛ ‵ ftrue) ∷ ‵ ftrue ∷ []) ∵ keep ! [] $
    enter ! _ _ _ _ _ $ alloc_all ! (λ l. pass_all ! refl tt $
    sets ! (agg ! (no_more !)) refl (tt, tt) $
    returns ! (look_at ! 0 refl) $ free_all ! refl $
    suffices ! _ (ends_at 𝓛 f.ended stayed c y none record { compared = 0; matched = 0; visited = 0; made = 0; moved = 0 } tt tt) $
    -- what the struct owns: no field, and nothing beside
    nothing ! $ made ! $ fjoin ! $ nothing ! $ join ! $ nothing ! $ join ! $ frame ! $
    tells ! refl $ tells ! refl $ tells ! refl $ tells ! refl $ tells_last ! refl))

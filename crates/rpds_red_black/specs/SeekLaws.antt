-- What positions come to in an empty list.
use Rattle.std.specs.Prelude.{◌≡◌, ℕ, zero, suc, ◌<◌, ◌≤◌, List, [], ◌∷◌, ◌++◌, take, drop, slice_get}
use Rattle.std.specs.List.{insert}
use Rattle.std.proofs.Common.{refl, ap}
use Rattle.std.proofs.Math.Nat.{not-suc-le-zero}
use Rattle.rpds_red_black.specs.Cuts.{items_of}

pub gap_at_end : {T : Type 0} (i : ℕ) (p : T) → i ≤ 0 → insert [] i p ≡ p ∷ []
gap_at_end zero p h = refl
gap_at_end (suc i) p h = absurd (not-suc-le-zero h)

pub at_never_ends : {C : Type 0} (i : ℕ) → i < 0 → C
at_never_ends i h = absurd (not-suc-le-zero h)

pub none_before : {T : Type 0} (i : ℕ) → i ≤ 0 → take {A = T} i [] ≡ []
none_before zero h = refl
none_before (suc i) h = refl

pub none_after : {T : Type 0} (i : ℕ) → i ≤ 0 → drop {A = T} i [] ≡ []
none_after zero h = refl
none_after (suc i) h = refl

pub gap_parts : {T : Type 0} (i : ℕ) (es : List T) → es ≡ take i es ++ ([] ++ drop i es)
gap_parts zero es = refl
gap_parts (suc i) [] = refl
gap_parts (suc i) (e ∷ es) = ap (λ z. e ∷ z) (gap_parts i es)

pub at_parts : {T : Type 0} (i : ℕ) (es : List T) → es ≡ take i es ++ (items_of (slice_get es i) ++ drop (suc i) es)
at_parts zero [] = refl
at_parts (suc i) [] = refl
at_parts zero (e ∷ es) = refl
at_parts (suc i) (e ∷ es) = ap (λ z. e ∷ z) (at_parts i es)

-- A write at a key of a hashed map.
use Rattle.std.proofs.Common.{[], ◌∷◌, ◌≡◌, ◌∙◌, Bool, true, false, cond, List, refl, sym, ap}
use Rattle.std.specs.Cmp.{IsEquivalence}
use Rattle.std.specs.List.{AllByRecursion, IsDistinct}
use Rattle.std.specs.List.Sorted.{IsPermutation}
use Rattle.std.specs.Map.{keys_of, set_value}
use Rattle.std.proofs.lemmas.List.Sorted.{IsPermutation-refl}
use Rattle.rpds_table.specs.Kinds.HashTrieMaps.{with_value}

module _ {K V : Type 0} (eq : K → K → Bool) (laws : IsEquivalence eq) (k : K) (v : V) where
  -- where no key is equal to one that is equal to k, nothing is written
  unwritten : (j : K) → eq j k ≡ true → (es : List (K × V)) → AllByRecursion (λ i. eq j i ≡ false) (keys_of es) → with_value eq k es v ≡ es
  unwritten j same [] others = refl
  unwritten j same (p ∷ es) others =
      let other : eq p.0 k ≡ false = laws.symm p.0 k ∙ sym (laws.congr j k p.0 same) ∙ others.0 in
      ap (λ b. cond b (p.0, v) p ∷ with_value eq k es v) other ∙ ap (λ es. p ∷ es) (unwritten j same es others.1)

  -- the first pair of a key is the only one
  pub written_first : (es : List (K × V)) → IsDistinct eq (keys_of es) → set_value (λ j. eq j k) es v ≡ with_value eq k es v
  unfolding IsDistinct
  written_first [] distinct = refl
  written_first (p ∷ es) distinct = by (eq p.0 k) refl (written_first es distinct.1) where
    by : (b : Bool) → eq p.0 k ≡ b → set_value (λ j. eq j k) es v ≡ with_value eq k es v → cond b ((p.0, v) ∷ es) (p ∷ set_value (λ j. eq j k) es v)
        ≡ cond b (p.0, v) p ∷ with_value eq k es v
    by true same rest = ap (λ es. (p.0, v) ∷ es) (sym (unwritten p.0 same es distinct.0))
    by false other rest = ap (λ es. p ∷ es) rest

  -- so that what it leaves is the same in whatever order the pairs stand
  pub written_is : (es fs : List (K × V)) → IsDistinct eq (keys_of es) → fs ≡ set_value (λ j. eq j k) es v → IsPermutation (with_value eq k es v) fs
  written_is es fs distinct is = rw (is, written_first es distinct) (IsPermutation-refl (with_value eq k es v))

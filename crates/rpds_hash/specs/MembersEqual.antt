-- Equality of sets, seen as lists of members, is an equivalence.
use Rattle.std.specs.Prelude.{◌≡◌, ℕ, Bool, ◌&&◌, ◌||◌, List, [], ◌∷◌, is_some}
use Rattle.std.proofs.Common.{refl, sym, ◌∙◌}
use Rattle.std.specs.Cmp.{IsEquivalence}
use Rattle.std.specs.List.{list_all, list_any}
use Rattle.std.specs.HashSet.{HashSet, contains, hash_set_eq}
use Rattle.std.specs.HashSet.Eq.{hash_set_eq_equiv}
use Rattle.std_collections.specs.Layout.HashSet.{hash_set}
use Rattle.std_collections.proofs.SetKeys.{is_some-find}
use Rattle.rpds_hash.specs.HashedSet.{find_member, is_subset, members_equal}

-- the set with these members
abbrev pub as_set : {T : Type 0} → List T → HashSet T ℕ
as_set ms = hash_set ms 0 0

module _ {T : Type 0} {eq : T → T → Bool} (laws : IsEquivalence eq) where
  any_turned : (x : T) (ms : List T) → list_any (λ m. eq m x) ms ≡ list_any (eq x) ms
  any_turned x [] = refl
  any_turned x (m ∷ ms) = λ i. laws.symm m x i || any_turned x ms i

  found_in_set : (x : T) (ms : List T) → is_some (find_member eq x ms) ≡ contains eq (as_set ms) x
  found_in_set x ms = is_some-find (λ m. eq m x) ms ∙ any_turned x ms

  subset_of_set : (ms others : List T) → is_subset eq ms others ≡ list_all (contains eq (as_set others)) ms
  subset_of_set [] others = refl
  subset_of_set (m ∷ ms) others = λ i. found_in_set m others i && subset_of_set ms others i

  -- the same as the equality of std's sets of these members
  pub equal_as_sets : (ms others : List T) → members_equal eq ms others ≡ hash_set_eq eq (as_set ms) (as_set others)
  equal_as_sets ms others = λ i. subset_of_set ms others i && subset_of_set others ms i

  pub members_equiv : IsEquivalence (members_equal eq)
  members_equiv =
      let sets = hash_set_eq_equiv laws in
      record {
        refl = λ ms. equal_as_sets ms ms ∙ sets.refl (as_set ms);
        symm = λ ms ns. equal_as_sets ms ns ∙ sets.symm (as_set ms) (as_set ns) ∙ sym (equal_as_sets ns ms);
        congr = λ ms ns os same. equal_as_sets ms os ∙ sets.congr (as_set ms) (as_set ns) (as_set os) (sym (equal_as_sets ms ns) ∙ same) ∙ sym (equal_as_sets ns os);
      }

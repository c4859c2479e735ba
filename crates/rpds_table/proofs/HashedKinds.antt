-- Equal hashed versions have equal outcomes.
use Rattle.std.proofs.Common.{[], ◌∷◌, ◌≡◌, ◌+◌, ◌∙◌, ◌||◌, Bool, true, false, not, cond, Some, List, length, is_some, find, refl, sym}
use Rattle.std.specs.List.{list_any}
use Rattle.std.specs.List.Sorted.{IsPermutation}
use Rattle.std.proofs.lemmas.List.Sorted.{IsPermutation-refl, IsPermutation-sym, IsPermutation-trans, IsPermutation-cons, IsPermutation-map}
use Rattle.std.proofs.lemmas.List.Sorted.{list_any-IsPermutation, length_permutation}
use Rattle.rpds_hash.specs.HashedMap.{HashedMap, find as find_pair, without}
use Rattle.rpds_hash.specs.HashedSet.{HashedSet}
use Rattle.rpds_table.specs.Compared.{Compared}
use Rattle.rpds_table.specs.Kinds.HashTrieMaps as maps
use Rattle.rpds_table.specs.Kinds.HashTrieSets as sets
use Rattle.rpds_table.specs.Outcomes.{SameOutcome}
use Rattle.rpds_table.specs.Types.{Edit, Op}
use Rattle.rpds_table.specs.declared.table.edit.Edit.TheVariants.{Change, WriteKey}
use Rattle.rpds_table.specs.declared.table.op.Op.TheVariants.{Insert, Remove, InsertItem, RemoveItem}
use Rattle.rpds_table.proofs.Filtered.{IsPermutation_filter}
use Rattle.rpds_table.proofs.Lawful.{IsLawful, found_alike, room_alike}

find_any : {X : Type 0} (p : X → Bool) (xs : List X) → is_some (find p xs) ≡ list_any p xs
find_any p [] = refl
find_any p (x ∷ xs) = go (p x) (find_any p xs) where
  go : (b : Bool) → is_some (find p xs) ≡ list_any p xs → is_some (cond b (Some x) (find p xs)) ≡ (b || list_any p xs)
  go true is = refl
  go false is = is

-- a list and its permutation have an element that passes, or neither has
found_in_both : {X : Type 0} (p : X → Bool) (xs ys : List X) → IsPermutation xs ys → is_some (find p xs) ≡ is_some (find p ys)
found_in_both p xs ys s = find_any p xs ∙ list_any-IsPermutation p xs ys s ∙ sym (find_any p ys)

module _ {K V : Type 0} (eq : K → K → Bool) (k : K) where
  without_alike : (es fs : List (K × V)) → IsPermutation es fs → IsPermutation (without eq k es) (without eq k fs)
  without_alike es fs s = IsPermutation_filter (λ p. not (eq p.0 k)) es fs s

  pairs_found : (es fs : List (K × V)) → IsPermutation es fs → is_some (find_pair eq k es) ≡ is_some (find_pair eq k fs)
  pairs_found es fs s = found_in_both (λ p. eq p.0 k) es fs s

module _ {K V H : Type 0} (keys : Compared K) where
  hash_map_op_respects : (op : Op K V) (m n : HashedMap K V H) → maps.Same m n
      → SameOutcome maps.Same (maps.outcome_of_op keys m op) (maps.outcome_of_op keys n op)
  hash_map_op_respects (Insert k v) m n e =
      rw (length_permutation m.entries n.entries e.0)
      (room_alike maps.Same _ _ (IsPermutation-cons (k, v) _ _ (without_alike keys.eq k m.entries n.entries e.0), e.1, e.2) (length m.entries + 1))
  hash_map_op_respects (Remove k) m n e = (without_alike keys.eq k m.entries n.entries e.0, e.1, e.2)
  hash_map_op_respects op m n e = tt

  hash_map_edit_respects : {A : Type 0} (edit : Edit K V A) (m n : HashedMap K V H) → maps.Same m n
      → SameOutcome maps.Same (maps.outcome_of_edit keys m edit) (maps.outcome_of_edit keys n edit)
  hash_map_edit_respects (Change (Remove k)) m n e =
      found_alike maps.Same _ _ (without_alike keys.eq k m.entries n.entries e.0, e.1, e.2) m.entries n.entries
      (length_permutation m.entries n.entries e.0) _ _ (pairs_found keys.eq k m.entries n.entries e.0)
  hash_map_edit_respects (Change op) m n e = hash_map_op_respects op m n e
  hash_map_edit_respects (WriteKey k v) m n e =
      found_alike maps.Same _ _ (IsPermutation-map (λ p. cond (keys.eq p.0 k) (p.0, v) p) m.entries n.entries e.0, e.1, e.2) m.entries n.entries
      (length_permutation m.entries n.entries e.0) _ _ (pairs_found keys.eq k m.entries n.entries e.0)
  hash_map_edit_respects edit m n e = tt

module _ {K V H : Type 0} (keys : Compared K) where
  hash_set_op_respects : (op : Op K V) (s t : HashedSet K H) → sets.Same s t
      → SameOutcome sets.Same (sets.outcome_of_op keys s op) (sets.outcome_of_op keys t op)
  hash_set_op_respects (InsertItem k) s t e =
      rw (length_permutation s.members t.members e.0)
      (room_alike sets.Same _ _ (IsPermutation-cons k _ _ (IsPermutation_filter (λ m. not (keys.eq m k)) s.members t.members e.0), e.1, e.2)
      (length s.members + 1))
  hash_set_op_respects (RemoveItem k) s t e = (IsPermutation_filter (λ m. not (keys.eq m k)) s.members t.members e.0, e.1, e.2)
  hash_set_op_respects op s t e = tt

  hash_set_edit_respects : {A : Type 0} (edit : Edit K V A) (s t : HashedSet K H) → sets.Same s t
      → SameOutcome sets.Same (sets.outcome_of_edit keys s edit) (sets.outcome_of_edit keys t edit)
  hash_set_edit_respects (Change (RemoveItem k)) s t e =
      found_alike sets.Same _ _ (IsPermutation_filter (λ m. not (keys.eq m k)) s.members t.members e.0, e.1, e.2) s.members t.members
      (length_permutation s.members t.members e.0) _ _ (found_in_both (λ m. keys.eq m k) s.members t.members e.0)
  hash_set_edit_respects (Change op) s t e = hash_set_op_respects op s t e
  hash_set_edit_respects edit s t e = tt

module _ (K V H A : Type 0) where
  pub hash_map_is_lawful : IsLawful {K = K} {V = V} {H = H} {A = A} maps.behaviour
  hash_map_is_lawful = record {
    same = λ m. (IsPermutation-refl m.entries, refl, refl);
    symm = λ m n e. (IsPermutation-sym m.entries n.entries e.0, sym e.1, sym e.2);
    trans = λ m n o d e. (IsPermutation-trans m.entries n.entries o.entries d.0 e.0, d.1 ∙ e.1, d.2 ∙ e.2);
    op_respects = hash_map_op_respects;
    edit_respects = λ keys. hash_map_edit_respects keys;
    op_budget = λ op m n e. refl;
    edit_budget = λ edit m n e. refl;
  }

  pub hash_set_is_lawful : IsLawful {K = K} {V = V} {H = H} {A = A} sets.behaviour
  hash_set_is_lawful = record {
    same = λ s. (IsPermutation-refl s.members, refl, refl);
    symm = λ s t e. (IsPermutation-sym s.members t.members e.0, sym e.1, sym e.2);
    trans = λ s t u d e. (IsPermutation-trans s.members t.members u.members d.0 e.0, d.1 ∙ e.1, d.2 ∙ e.2);
    op_respects = λ keys. hash_set_op_respects keys;
    edit_respects = λ keys. hash_set_edit_respects keys;
    op_budget = λ op s t e. refl;
    edit_budget = λ edit s t e. refl;
  }

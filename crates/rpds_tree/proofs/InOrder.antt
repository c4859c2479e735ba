-- Items that are sorted, of equal keys without all but the one that came last, are those that are put in one after another.
use Rattle.std.proofs.Common.{find as first}
use Rattle.std.proofs.lemmas.Cmp.{on_total}
use Rattle.std.proofs.lemmas.List.Kept.{IsStrictlySortedBy-dedup}
use Rattle.std.specs.List.{dedup, dedup_from}
use Rattle.std.specs.List.Sorted.{IsSorted, IsStable, ties}
use Rattle.std.specs.Ordering.{eq_by_cmp}
use Rattle.rpds_tree.proofs.Words.{◌≡◌, Bool, Option, None, List, [], ◌∷◌, map, reverse, slice_get, refl, sym, ap, ◌∙◌, append-nil, arith, Ordering, IsTotalOrder}
use Rattle.rpds_tree.proofs.Words.{IsStrictlySortedBy, alike_right, filter, find, find_member, is_eq, is_lt, put, put_all, put_member, put_members, IsAscending}
use Rattle.rpds_tree.proofs.Extended.{found_in_members}
use Rattle.rpds_tree.proofs.MemberLaws.{members_unique, sorted_put_member}
use Rattle.rpds_tree.proofs.Unions.{ascending_put_all, find_put_all, of_union}
use Rattle.rpds_red_black.proofs.Cutting.{ascending_unique}
use Rattle.rpds_red_black.specs.Cuts.{pick}

module _ {X : Type 0} (test : X → Bool) where
  first_passed : (xs : List X) → first test xs ≡ slice_get (filter test xs) 0
  first_passed [] = refl
  first_passed (x ∷ xs) = grind (arith, first_passed xs)

  -- what is found goes by what passes
  pub found_alike : (xs ys : List X) → filter test xs ≡ filter test ys → first test xs ≡ first test ys
  found_alike xs ys same = first_passed xs ∙ ap (λ l. slice_get l 0) same ∙ sym (first_passed ys)

module _ {X : Type 0} {R : X → X → Ordering} (o : IsTotalOrder R) where
  is_tied : (x y : X) → ties (λ x y. is_lt (R x y)) x y ≡ is_eq (R x y)
  is_tied x y = grind (arith, o.antisymm y x)

  -- a stable sort keeps what is found
  found_sorted : (xs ys : List X) → IsStable R xs ys → (x : X) → find_member R x ys ≡ find_member R x xs
  found_sorted xs ys stable x = found_alike (λ y. is_eq (R x y)) ys xs ((λ i. filter (λ y. sym (is_tied x y) i) ys) ∙ stable x ∙ (λ i. filter (λ y. is_tied x y i) xs))

  found_from : (x kept : X) (xs : List X) → find_member R x (dedup_from (eq_by_cmp R) kept xs) ≡ find_member R x (kept ∷ xs)
  found_from x kept [] = refl
  found_from x kept (y ∷ xs) = grind (arith, found_from x kept xs, found_from x y xs, alike_right o y kept x)

  -- of equal items the first is found, which stays
  found_once : (x : X) (xs : List X) → find_member R x (dedup (eq_by_cmp R) xs) ≡ find_member R x xs
  found_once x [] = refl
  found_once x (y ∷ xs) = found_from x y xs

  sorted_put_members : (ms xs : List X) → IsStrictlySortedBy R ms → IsStrictlySortedBy R (put_members R ms xs)
  sorted_put_members ms [] up = up
  sorted_put_members ms (x ∷ xs) up = sorted_put_members (put_member R x ms) xs (sorted_put_member o x ms up)

  -- what is left of items that were turned round and sorted
  pub put_sorted : (xs ys : List X) → IsSorted R ys → IsStable R (reverse xs) ys → dedup (eq_by_cmp R) ys ≡ put_members R [] xs
  unfolding IsStrictlySortedBy
  put_sorted xs ys sorted stable =
      members_unique o (dedup (eq_by_cmp R) ys) (put_members R [] xs) (IsStrictlySortedBy-dedup o (λ x y. refl) ys sorted) (sorted_put_members [] xs tt)
      (λ x. found_once x ys ∙ found_sorted (reverse xs) ys stable x ∙ ap (find_member R x) (sym (append-nil (reverse xs))) ∙ sym (found_in_members o x [] xs))

module _ {X K V : Type 0} (R : K → K → Ordering) (pair : X → K × V) where
  -- how items compare by their keys
  abbrev pub by_keys : X → X → Ordering
  by_keys x y = R (pair x).0 (pair y).0

  put_pair : (x : X) (ms : List X) → map pair (put_member by_keys x ms) ≡ put R (pair x) (map pair ms)
  put_pair x [] = refl
  put_pair x (m ∷ ms) = grind (arith, put_pair x ms)

  put_pairs : (ms xs : List X) → map pair (put_members by_keys ms xs) ≡ put_all R (map pair ms) (map pair xs)
  put_pairs ms [] = refl
  put_pairs ms (x ∷ xs) = put_pairs (put_member by_keys x ms) xs ∙ ap (λ es. put_all R es (map pair xs)) (put_pair x ms)

  -- the same of the pairs that items are
  pub pairs_in_order : IsTotalOrder R → (xs ys : List X) → IsSorted by_keys ys → IsStable by_keys (reverse xs) ys → map pair (dedup (eq_by_cmp by_keys) ys) ≡ put_all R [] (map pair xs)
  pairs_in_order o xs ys sorted stable = ap (map pair) (put_sorted (on_total (λ x. (pair x).0) o) xs ys sorted stable) ∙ put_pairs [] xs

module _ {K V : Type 0} {R : K → K → Ordering} (o : IsTotalOrder R) where
  picked_alone : (found : Option (K × V)) → pick of_union found None ≡ found
  picked_alone found = grind arith

  -- pairs that ascend are all put behind one another
  pub put_ascending : (es : List (K × V)) → IsAscending R es → put_all R [] es ≡ es
  put_ascending es up =
      ascending_unique R o (put_all R [] es) es (ascending_put_all R o [] es tt) up (λ k. find_put_all R o k [] es up ∙ picked_alone (find R k es))

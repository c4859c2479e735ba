-- What callers need of `find_member`, `put_member` and `without_member`.
use Rattle.std.specs.declared.option.Option.{Option}
use Rattle.std.proofs.Common.{filter}
use Rattle.std.specs.List.{list_all}
use Rattle.std.proofs.lemmas.Option.{slice_get-map}
use Rattle.rpds_red_black.specs.Pairs.{IsBelowAll, IsAscending, find as find_pair, put, without}
use Rattle.rpds_tree.proofs.Words.{◌≡◌, ◌≢◌, ◌+◌, Bool, true, cond, ◌||◌, ℕ, List, [], ◌∷◌, Some, None, IsSome, is_some, is_none, length, map, slice_get}
use Rattle.rpds_tree.proofs.Words.{refl, sym, ap, subst, ◌∙◌, Ordering, Less, Equal, IsTotalOrder, AllByRecursion, IsStrictlySortedBy, keys_of, option_map}
use Rattle.rpds_tree.proofs.Words.{is_eq, tied_itself, find_member, put_member, without_member, is_subset, is_disjoint, arith}
use Rattle.rpds_tree.proofs.MapLaws.{one_unless, find_at, find_put_other, has_put, length_put, length_without}
use Rattle.rpds_tree.proofs.Members.{length_members, member_found, member_put, members_without, ascending_members}
use Rattle.rpds_red_black.proofs.Cutting.{ascending_unique}
use Rattle.rpds_red_black.proofs.Pairs.{ascending_put, ascending_without, find_put, find_tied, find_without, find_without_other}

module _ {T : Type 0} where
  -- the map of a set
  abbrev pub units : List T → List (T × Unit {0})
  units [] = []
  units (m ∷ ms) = (m, tt) ∷ units ms

  abbrev to_unit : T → T × Unit {0}
  to_unit m = (m, tt)

  units_map : (ms : List T) → units ms ≡ map to_unit ms
  units_map [] = refl
  units_map (m ∷ ms) = ap (λ l. (m, tt) ∷ l) (units_map ms)

  pub keys : (ms : List T) → keys_of (units ms) ≡ ms
  keys [] = refl
  keys (m ∷ ms) = ap (λ l. m ∷ l) (keys ms)

  kept_some : (f : Option (T × Unit {0})) → is_some (option_map (λ p. p.0) f) ≡ is_some f
  kept_some f = grind arith

module _ {T : Type 0} {R : T → T → Ordering} (o : IsTotalOrder R) where
  pub found : (x : T) (ms : List T) → find_member R x ms ≡ option_map (λ p. p.0) (find_pair R x (units ms))
  found x ms = ap (find_member R x) (sym (keys ms)) ∙ member_found R x (units ms)

  had : (x : T) (ms : List T) → is_some (find_member R x ms) ≡ is_some (find_pair R x (units ms))
  had x ms = ap is_some (found x ms) ∙ kept_some (find_pair R x (units ms))

  with_pair : (x : T) (ms : List T) → put_member R x ms ≡ keys_of (put R (x, tt) (units ms))
  with_pair x ms = ap (put_member R x) (sym (keys ms)) ∙ sym (member_put R (x, tt) (units ms))

  pub less_pair : (x : T) (ms : List T) → without_member R x ms ≡ keys_of (without R x (units ms))
  less_pair x ms = ap (without_member R x) (sym (keys ms)) ∙ sym (members_without R x (units ms))

  below_units : (x : T) (ms : List T) → AllByRecursion (λ m. R x m ≡ Less) ms → IsBelowAll R x (units ms)
  below_units x [] below = tt
  below_units x (m ∷ ms) below = (below.0, below_units x ms below.1)

  pub ascending_units : (ms : List T) → IsStrictlySortedBy R ms → IsAscending R (units ms)
  unfolding IsStrictlySortedBy
  ascending_units [] up = tt
  ascending_units (m ∷ ms) up = (below_units m ms up.0, ascending_units ms up.1)

  pair_in_units : (x : T) (ms : List T) → find_pair R x (units ms) ≡ option_map to_unit (find_member R x ms)
  pair_in_units x [] = refl
  pair_in_units x (m ∷ ms) = grind (arith, pair_in_units x ms)

  -- sets in which the same is found are the same
  pub members_unique : (ms others : List T) → IsStrictlySortedBy R ms → IsStrictlySortedBy R others → ((x : T) → find_member R x ms ≡ find_member R x others) → ms ≡ others
  members_unique ms others up up' same =
      let found_alike : (x : T) → find_pair R x (units ms) ≡ find_pair R x (units others) = λ x. pair_in_units x ms ∙ ap (option_map to_unit) (same x) ∙ sym (pair_in_units x others) in
      sym (keys ms) ∙ ap keys_of (ascending_unique R o (units ms) (units others) (ascending_units ms up) (ascending_units others up') found_alike) ∙ keys others

  -- looking up
  pub member_at : (ms : List T) (i : ℕ) (m : T) → IsStrictlySortedBy R ms → slice_get ms i ≡ Some m → find_member R m ms ≡ Some m
  member_at ms i m up at =
      let there = ap (λ l. slice_get l i) (units_map ms) ∙ slice_get-map to_unit ms i ∙ ap (option_map to_unit) at in
      found m ms ∙ ap (option_map (λ p. p.0)) (find_at o (units ms) i (to_unit m) (ascending_units ms up) there)

  pub member_tied : (x : T) (ms : List T) (m : T) → find_member R x ms ≡ Some m → R x m ≡ Equal
  member_tied x ms m is = find_tied o x (units ms) (to_unit m) (pair_in_units x ms ∙ ap (option_map to_unit) is)

  pub find_put_member : (x : T) (ms : List T) → find_member R x (put_member R x ms) ≡ Some x
  find_put_member x ms = ap (find_member R x) (with_pair x ms) ∙ member_found R x (put R (x, tt) (units ms)) ∙ ap (option_map (λ p. p.0)) (find_put R o (x, tt) (units ms))

  pub find_put_other_member : (x y : T) (ms : List T) → R x y ≢ Equal → find_member R y (put_member R x ms) ≡ find_member R y ms
  find_put_other_member x y ms apart =
      ap (find_member R y) (with_pair x ms) ∙ member_found R y (put R (x, tt) (units ms)) ∙ ap (option_map (λ p. p.0)) (find_put_other o (x, tt) (units ms) y apart) ∙ sym (found y ms)

  pub has_put_member : (x y : T) (ms : List T) → is_some (find_member R y (put_member R x ms)) ≡ (is_eq (R y x) || is_some (find_member R y ms))
  has_put_member x y ms =
      ap is_some (ap (find_member R y) (with_pair x ms) ∙ member_found R y (put R (x, tt) (units ms))) ∙ kept_some (find_pair R y (put R (x, tt) (units ms)))
      ∙ has_put o (x, tt) (units ms) y ∙ ap (λ b. is_eq (R y x) || b) (sym (had y ms))

  pub sorted_put_member : (x : T) (ms : List T) → IsStrictlySortedBy R ms → IsStrictlySortedBy R (put_member R x ms)
  sorted_put_member x ms up = subst (IsStrictlySortedBy R) (sym (with_pair x ms)) (ascending_members R (put R (x, tt) (units ms)) (ascending_put R o (x, tt) (units ms) (ascending_units ms up)))

  lengths : (ms : List T) → length (units ms) ≡ length ms
  lengths ms = sym (length_members (units ms)) ∙ ap length (keys ms)

  pub length_put_member : (x : T) (ms : List T) → IsStrictlySortedBy R ms → length (put_member R x ms) ≡ length ms + one_unless (is_some (find_member R x ms))
  length_put_member x ms up =
      ap length (with_pair x ms) ∙ length_members (put R (x, tt) (units ms)) ∙ length_put o (x, tt) (units ms) (ascending_units ms up)
      ∙ λ i. lengths ms i + one_unless (sym (had x ms) i)

  pub find_without_member : (x : T) (ms : List T) → find_member R x (without_member R x ms) ≡ None
  find_without_member x ms = ap (find_member R x) (less_pair x ms) ∙ member_found R x (without R x (units ms)) ∙ ap (option_map (λ p. p.0)) (find_without R o x (units ms))

  pub find_without_other_member : (x y : T) (ms : List T) → R x y ≢ Equal → find_member R y (without_member R x ms) ≡ find_member R y ms
  find_without_other_member x y ms apart =
      ap (find_member R y) (less_pair x ms) ∙ member_found R y (without R x (units ms)) ∙ ap (option_map (λ p. p.0)) (find_without_other R o y x (units ms) apart) ∙ sym (found y ms)

  pub sorted_without_member : (x : T) (ms : List T) → IsStrictlySortedBy R ms → IsStrictlySortedBy R (without_member R x ms)
  sorted_without_member x ms up = subst (IsStrictlySortedBy R) (sym (less_pair x ms)) (ascending_members R (without R x (units ms)) (ascending_without R x (units ms) (ascending_units ms up)))

  pub length_without_member : (x : T) (ms : List T) → IsStrictlySortedBy R ms → length (without_member R x ms) + cond (is_some (find_member R x ms)) 1 0 ≡ length ms
  length_without_member x ms up =
      (λ i. (ap length (less_pair x ms) ∙ length_members (without R x (units ms))) i + cond (had x ms i) 1 0)
      ∙ length_without o x (units ms) (ascending_units ms up) ∙ lengths ms

  pub find_same_member : (x y : T) (ms : List T) → R x y ≡ Equal → find_member R x ms ≡ find_member R y ms
  find_same_member x y [] same = refl
  find_same_member x y (m ∷ ms) same = rw (o.congr x y m same) (ap (cond (is_eq (R y m)) (Some m)) (find_same_member x y ms same))

  -- sets within and apart from others
  every : (test : T → Bool) → ((x y : T) → R x y ≡ Equal → test x ≡ test y) → (ms : List T) → list_all test ms ≡ true → (x : T) → IsSome (find_member R x ms) → test x ≡ true
  every test same [] all x there = absurd (cc)
  every test same (m ∷ ms) all x there = grind (arith, λ (a : list_all test ms ≡ true) (t : IsSome (find_member R x ms)). every test same ms a x t, same x m)

  each : (test : T → Bool) → (ms : List T) → ((x : T) → IsSome (find_member R x ms) → test x ≡ true) → list_all test ms ≡ true
  each test [] all = refl
  each test (m ∷ ms) all = grind (arith, all m, tied_itself o m, each test ms (λ x there. all x (grind arith)))

  pub within_subset : (ms others : List T) → is_subset R ms others ≡ true → (x : T) → IsSome (find_member R x ms) → IsSome (find_member R x others)
  within_subset ms others = every (λ m. is_some (find_member R m others)) (λ x y same. ap is_some (find_same_member x y others same)) ms

  pub subset_of_members : (ms others : List T) → ((x : T) → IsSome (find_member R x ms) → IsSome (find_member R x others)) → is_subset R ms others ≡ true
  subset_of_members ms others = each (λ m. is_some (find_member R m others)) ms

  absent : (f : Option T) → is_none f ≡ true → f ≡ None
  absent f is = grind arith

  pub apart_disjoint : (ms others : List T) → is_disjoint R ms others ≡ true → (x : T) → IsSome (find_member R x ms) → find_member R x others ≡ None
  apart_disjoint ms others all x there = absent (find_member R x others) (every (λ m. is_none (find_member R m others)) (λ x y same. ap is_none (find_same_member x y others same)) ms all x there)

  pub disjoint_of_members : (ms others : List T) → ((x : T) → IsSome (find_member R x ms) → find_member R x others ≡ None) → is_disjoint R ms others ≡ true
  disjoint_of_members ms others all = each (λ m. is_none (find_member R m others)) ms (λ x there. ap is_none (all x there))

-- a filter of members that passes equal values alike
pub member_filtered : {T : Type 0} (R : T → T → Ordering) (test : T → Bool) → ((x y : T) → R x y ≡ Equal → test x ≡ test y) → (x : T) (ms : List T)
    → find_member R x (filter test ms) ≡ cond (test x) (find_member R x ms) None
member_filtered R test alike x [] = grind arith
member_filtered R test alike x (m ∷ ms) = grind (arith, member_filtered R test alike x ms, alike x m)

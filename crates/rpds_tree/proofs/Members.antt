-- A set's members are its map's keys.
use Rattle.rpds_tree.specs.OrderedSet.{ceiling_member_form, find_member_by, floor_member_form, members_outside_forms, members_within_forms, without_member_by, IsOrderedSet}
use Rattle.rpds_red_black.specs.Pairs.{IsBelowAll, IsAscending, find as find_pair, find_by, put, put_all, without, without_by}
use Rattle.rpds_red_black.specs.Neighbors.{ceiling_form, floor_form}
use Rattle.rpds_red_black.specs.Positions.{rank}
use Rattle.rpds_red_black.specs.Ranges.{outside_forms, within_forms}
use Rattle.rpds_tree.proofs.Words.{◌≡◌, ℕ, zero, suc, ◌-◌, ◌&&◌, Bool, not, List, [], ◌∷◌, ◌++◌, length, slice_get, refl, sym, ap, ◌∙◌, AllByRecursion, filter}
use Rattle.rpds_tree.proofs.Words.{IsStrictlySortedBy, keys_of, option_map, Ordering, Less, Bound, Included, Unbounded, is_eq, is_lt, OrderedMap, IsOrdered, set_of, find_member}
use Rattle.rpds_tree.proofs.Words.{put_member, put_members, without_member, rank_member, is_from, is_up_to, arith}

module _ {T V : Type 0} where
  pub length_members : (es : List (T × V)) → length (keys_of es) ≡ length es
  length_members [] = refl
  length_members (e ∷ es) = ap suc (length_members es)

  pub member_at : (es : List (T × V)) (n : ℕ) → slice_get (keys_of es) n ≡ option_map (λ p. p.0) (slice_get es n)
  member_at [] n = refl
  member_at (e ∷ es) zero = refl
  member_at (e ∷ es) (suc n) = member_at es n

  keys_filter : (test : T → Bool) (es : List (T × V)) → keys_of (filter (λ e. test e.0) es) ≡ filter test (keys_of es)
  keys_filter test [] = refl
  keys_filter test (e ∷ es) = grind (arith, keys_filter test es)

  pub members_joined : (es fs : List (T × V)) → keys_of (es ++ fs) ≡ keys_of es ++ keys_of fs
  members_joined [] fs = refl
  members_joined (e ∷ es) fs = ap (λ t. e.0 ∷ t) (members_joined es fs)

module _ {T V : Type 0} (seek : T → Ordering) where
  pub member_sought : (es : List (T × V)) → find_member_by seek (keys_of es) ≡ option_map (λ p. p.0) (find_by seek es)
  member_sought [] = refl
  member_sought (e ∷ es) = grind (arith, member_sought es)

  pub members_others : (es : List (T × V)) → keys_of (without_by seek es) ≡ without_member_by seek (keys_of es)
  members_others es = keys_filter (λ m. not (is_eq (seek m))) es

module _ {T V : Type 0} (R : T → T → Ordering) where
  pub member_found : (x : T) (es : List (T × V)) → find_member R x (keys_of es) ≡ option_map (λ p. p.0) (find_pair R x es)
  member_found x = member_sought (R x)

  pub member_put : (p : T × V) (es : List (T × V)) → keys_of (put R p es) ≡ put_member R p.0 (keys_of es)
  member_put p [] = refl
  member_put p (e ∷ es) = grind (arith, member_put p es)

  pub keys_put_all : (es ps : List (T × V)) → keys_of (put_all R es ps) ≡ put_members R (keys_of es) (keys_of ps)
  keys_put_all es [] = refl
  keys_put_all es (p ∷ ps) = keys_put_all (put R p es) ps ∙ ap (λ z. put_members R z (keys_of ps)) (member_put p es)

  pub members_without : (x : T) (es : List (T × V)) → keys_of (without R x es) ≡ without_member R x (keys_of es)
  members_without x = members_others (R x)

  below_members : (x : T) (es : List (T × V)) → IsBelowAll R x es → AllByRecursion (λ m. R x m ≡ Less) (keys_of es)
  below_members x [] h = tt
  below_members x (e ∷ es) h = (h.0, below_members x es h.1)

  pub ascending_members : (es : List (T × V)) → IsAscending R es → IsStrictlySortedBy R (keys_of es)
  unfolding IsStrictlySortedBy
  ascending_members [] h = tt
  ascending_members (e ∷ es) h = (below_members e.0 es h.0, ascending_members es h.1)

-- what is told by a form of a value, or by a value: `order` is how that compares to a member, and `turned` how a member compares to it
module _ {S T V : Type 0} (order : S → T → Ordering) (turned : T → S → Ordering) where
  pub members_between : (start end : Bound S) (es : List (T × V)) → keys_of (within_forms order turned start end es) ≡ members_within_forms order turned start end (keys_of es)
  members_between start end es = keys_filter (λ m. is_from order start m && is_up_to turned end m) es

  pub members_beyond : (start end : Bound S) (es : List (T × V)) → keys_of (outside_forms order turned start end es) ≡ members_outside_forms order turned start end (keys_of es)
  members_beyond start end es = keys_filter (λ m. not (is_from order start m && is_up_to turned end m)) es

  pub length_between : (start end : Bound S) (es : List (T × V)) → length (members_within_forms order turned start end (keys_of es)) ≡ length (within_forms order turned start end es)
  length_between start end es = ap length (sym (members_between start end es)) ∙ length_members (within_forms order turned start end es)

  pub member_below : (s : S) (es : List (T × V)) → floor_member_form order turned s (keys_of es) ≡ option_map (λ p. p.0) (floor_form order turned s es)
  member_below s es =
      let until = within_forms order turned Unbounded (Included s) es in
      ap (λ ms. slice_get ms (length ms - 1)) (sym (members_between Unbounded (Included s) es)) ∙ ap (λ n. slice_get (keys_of until) (n - 1)) (length_members until)
      ∙ member_at until (length until - 1)

  pub member_above : (s : S) (es : List (T × V)) → ceiling_member_form order turned s (keys_of es) ≡ option_map (λ p. p.0) (ceiling_form order turned s es)
  member_above s es =
      ap (λ ms. slice_get ms 0) (sym (members_between (Included s) Unbounded es)) ∙ member_at (within_forms order turned (Included s) Unbounded es) 0

module _ {S T V : Type 0} (R : T → S → Ordering) (s : S) where
  pub member_rank : (es : List (T × V)) → rank_member R s (keys_of es) ≡ rank R s es
  member_rank es = ap length (sym (keys_filter (λ m. is_lt (R m s)) es)) ∙ length_members (filter (λ e. is_lt (R e.0 s)) es)

module _ {T : Type 0} (R : T → T → Ordering) where
  pub ordered_set : (m : OrderedMap T (Unit {0})) → IsOrdered R m → IsOrderedSet R (set_of m)
  ordered_set m h = record { ascending = ascending_members R m.entries h.ascending; shallow = rw (length_members m.entries) h.shallow; deep = rw (length_members m.entries) h.deep }

  pub put_members_last : (ms xs : List T) (x : T) → put_members R ms (xs ++ x ∷ []) ≡ put_member R x (put_members R ms xs)
  put_members_last ms [] x = refl
  put_members_last ms (y ∷ xs) x = put_members_last (put_member R y ms) xs x

pub ruleset member_rules = (length_members, member_at, member_found, member_sought, members_others, member_put, members_without, members_between, members_beyond, members_joined, member_above, member_below, member_rank, length_between, ordered_set, put_members_last)

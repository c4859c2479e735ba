-- What an ordered set is seen as, and the words of its contracts.
use Rattle.std.specs.Prelude.{◌-◌, ◌<◌, ◌≤◌, ◌^◌, ℕ, Bool, ◌&&◌, not, Option, List, [], ◌∷◌, length, filter, slice_get, find, is_some, is_none}
use Rattle.std.specs.List.{list_all}
use Rattle.std.specs.List.Sorted.{IsStrictlySortedBy}
use Rattle.std.specs.Map.{keys_of}
use Rattle.std.specs.declared.cmp.Ordering.{Ordering}
use Rattle.std.specs.declared.ops.Bound.{Bound}
use Rattle.std.specs.declared.ops.Bound.TheVariants.{Included, Unbounded}
use Rattle.std.specs.Ordering.{is_eq, match_ordering}
use Rattle.rpds_red_black.specs.Logarithm.{most_levels}
use Rattle.rpds_red_black.specs.OrderedMap.{OrderedMap}
use Rattle.rpds_red_black.specs.Ranges.{is_from, is_up_to}

-- its members in ascending order, and the number of nodes on the longest path of its tree
pub record OrderedSet (T : Type 0) : Type 0 where
  pub members : List T
  pub depth : ℕ

-- the keys of a map to unit
abbrev pub set_of : {T : Type 0} → OrderedMap T (Unit {0}) → OrderedSet T
set_of m = record { members = keys_of m.entries; depth = m.depth }

module _ {T : Type 0} (q : T → Ordering) where
  -- the member that is looked for, by how that compares to members
  abbrev pub find_member_by : List T → Option T
  find_member_by ms = find (λ m. is_eq (q m)) ms

  -- the other members
  abbrev pub without_member_by : List T → List T
  without_member_by ms = filter (λ m. not (is_eq (q m))) ms

-- the member that is equal to s, if there is one: s is a value, or what a value's form is seen as
abbrev pub find_member : {S T : Type 0} → (S → T → Ordering) → S → List T → Option T
find_member R s ms = find_member_by (R s) ms

-- the members that aren't equal to s
abbrev pub without_member : {S T : Type 0} → (S → T → Ordering) → S → List T → List T
without_member R s ms = without_member_by (R s) ms

-- what forms of values are seen as: `order` is how it compares to a member, and `turned` how a member compares to it
module _ {S T : Type 0} (order : S → T → Ordering) (turned : T → S → Ordering) where
  -- the members within the bounds
  abbrev pub members_within_forms : Bound S → Bound S → List T → List T
  members_within_forms start end ms = filter (λ m. is_from order start m && is_up_to turned end m) ms

  -- the other members
  abbrev pub members_outside_forms : Bound S → Bound S → List T → List T
  members_outside_forms start end ms = filter (λ m. not (is_from order start m && is_up_to turned end m)) ms

  -- the last of those up to s, if there is one
  abbrev pub floor_member_form : S → List T → Option T
  floor_member_form s ms = let until = members_within_forms Unbounded (Included s) ms in slice_get until (length until - 1)

  -- the first of those from s on, if there is one
  abbrev pub ceiling_member_form : S → List T → Option T
  ceiling_member_form s ms = slice_get (members_within_forms (Included s) Unbounded ms) 0

module _ {T : Type 0} (R : T → T → Ordering) where
  -- the members with x at its place, where no member is equal to it, and else in the place of that member
  abbrev pub put_member : T → List T → List T
  put_member x [] = x ∷ []
  put_member x (m ∷ ms) = match_ordering (R x m) (x ∷ m ∷ ms) (x ∷ ms) (m ∷ put_member x ms)

  -- the members with each of xs put in, in turn
  abbrev pub put_members : List T → List T → List T
  put_members ms [] = ms
  put_members ms (x ∷ xs) = put_members (put_member x ms) xs

  -- the members between two bounds
  abbrev pub members_within : Bound T → Bound T → List T → List T
  members_within start end ms = members_within_forms R R start end ms

  -- the other members
  abbrev pub members_outside : Bound T → Bound T → List T → List T
  members_outside start end ms = members_outside_forms R R start end ms

  -- the last of those up to x, if there is one
  abbrev pub floor_member : T → List T → Option T
  floor_member x ms = floor_member_form R R x ms

  -- the first of those from x on, if there is one
  abbrev pub ceiling_member : T → List T → Option T
  ceiling_member x ms = ceiling_member_form R R x ms

  -- whether each member of the first is found in the second
  abbrev pub is_subset : List T → List T → Bool
  is_subset ms others = list_all (λ m. is_some (find_member R m others)) ms

  -- whether no member of the first is found in the second
  abbrev pub is_disjoint : List T → List T → Bool
  is_disjoint ms others = list_all (λ m. is_none (find_member R m others)) ms

-- each member is below those after it, no path is longer than twice the logarithm, and the longest is as long as any binary tree
-- of that many members needs
pub record IsOrderedSet {T : Type 0} (R : T → T → Ordering) (s : OrderedSet T) : Type 0 where
  pub ascending : IsStrictlySortedBy R s.members
  pub shallow : s.depth ≤ most_levels (length s.members)
  pub deep : length s.members < 2 ^ s.depth

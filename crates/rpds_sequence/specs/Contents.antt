-- What a sequence is made of.
use Rattle.std.specs.Prelude.{◌≡◌, ℕ, ◌≤◌, Bool, true, false, List, [], length}
use Rattle.std.specs.Map.{keys_of}
use Rattle.std.specs.declared.cmp.Ordering.{Ordering}
use Rattle.std.specs.declared.cmp.Ordering.TheVariants.{Less, Greater}
use Rattle.rpds_red_black.specs.Logarithm.{most_levels}
use Rattle.rpds_red_black.specs.Shape.{Shape}
use Rattle.rpds_red_black.specs.Sides.{joined}

-- the items in order: the keys of the tree's pairs
abbrev pub items_of : {T : Type 0} → Shape T (Unit {0}) → List T
items_of s = keys_of s.entries

-- no path is longer than twice the logarithm
pub record IsSequence {T : Type 0} (s : Shape T (Unit {0})) (size : ℕ) : Type 0 where
  pub count : size ≡ length s.entries
  pub shallow : s.depth ≤ most_levels (length s.entries)

-- the items without the one at an end: the last one for `true`
pub record IsWithoutEnd {T : Type 0} (right : Bool) (all left : List T) : Type 0 where
  pub end : T
  pub items : all ≡ joined right [] end left

-- what a search by a test compares by
abbrev pub less_or_greater : Bool → Ordering
less_or_greater true = Less
less_or_greater false = Greater

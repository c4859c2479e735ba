-- The members of a set next to a value.
use Rattle.std.specs.Prelude.{◌≡◌, IsTrue, Some, None, List}
use Rattle.std.specs.declared.cmp.Ordering.{Ordering}
use Rattle.std.specs.declared.cmp.Ordering.TheVariants.{Less}
use Rattle.std.specs.Ordering.{is_le}
use Rattle.rpds_tree.specs.OrderedSet.{find_member}

module _ {T : Type 0} (R : T → T → Ordering) (x : T) (ms : List T) where
  -- the last member at or below x: m is found, and no value above it and at or below x
  pub record IsFloorMember (m : T) : Type 0 where
    pub there : find_member R m ms ≡ Some m
    pub within : IsTrue (is_le (R m x))
    pub last : (y : T) → R m y ≡ Less → IsTrue (is_le (R y x)) → find_member R y ms ≡ None

  -- the first member at or above x: m is found, and no value below it and at or above x
  pub record IsCeilingMember (m : T) : Type 0 where
    pub there : find_member R m ms ≡ Some m
    pub within : IsTrue (is_le (R x m))
    pub first : (y : T) → R y m ≡ Less → IsTrue (is_le (R x y)) → find_member R y ms ≡ None

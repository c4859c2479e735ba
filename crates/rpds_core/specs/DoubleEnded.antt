-- Two iterators over one list, which go towards each other.
use Rattle.std.specs.Prelude.{◌≡◌, ℕ, ◌≤◌, Bool, true, false, List, length, reverse, take}

-- a list in the order in which an iterator gives it, from its back or from its front
abbrev pub along : {T : Type 0} → Bool → List T → List T
along true xs = reverse xs
along false xs = xs

-- the items that are left are the next ones of each, in opposite orders
pub record AreFacing {T : Type 0} (front back : List T) (left : ℕ) : Type 0 where
  pub in_front : left ≤ length front
  pub in_back : left ≤ length back
  pub same : take left front ≡ reverse (take left back)

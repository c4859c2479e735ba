-- The pairs next to a key.
use Rattle.std.specs.Prelude.{◌≡◌, ◌-◌, IsTrue, Option, Some, None, List, length, slice_get}
use Rattle.std.specs.declared.cmp.Ordering.{Ordering}
use Rattle.std.specs.declared.cmp.Ordering.TheVariants.{Less}
use Rattle.std.specs.declared.ops.Bound.TheVariants.{Included, Unbounded}
use Rattle.std.specs.Ordering.{is_le}
use Rattle.rpds_red_black.specs.Pairs.{find}
use Rattle.rpds_red_black.specs.Ranges.{within_forms}

-- next to what a form of a key is seen as: `order` is how that compares to a key, and `turned` how a key compares to it
module _ {S K V : Type 0} (order : S → K → Ordering) (turned : K → S → Ordering) (s : S) (es : List (K × V)) where
  -- the last pair of the range up to it, if there is one
  abbrev pub floor_form : Option (K × V)
  floor_form = let until = within_forms order turned Unbounded (Included s) es in slice_get until (length until - 1)

  -- the first pair of the range from it on, if there is one
  abbrev pub ceiling_form : Option (K × V)
  ceiling_form = slice_get (within_forms order turned (Included s) Unbounded es) 0

module _ {K V : Type 0} (R : K → K → Ordering) (k : K) (es : List (K × V)) where
  -- the last pair of the range up to k, if there is one
  abbrev pub floor : Option (K × V)
  floor = floor_form R R k es

  -- the first pair of the range from k on, if there is one
  abbrev pub ceiling : Option (K × V)
  ceiling = ceiling_form R R k es

  -- the last pair at or below k: p is found, and no key above that of p and at or below k
  pub record IsFloor (p : K × V) : Type 0 where
    pub there : find R p.0 es ≡ Some p
    pub within : IsTrue (is_le (R p.0 k))
    pub last : (j : K) → R p.0 j ≡ Less → IsTrue (is_le (R j k)) → find R j es ≡ None

  -- the first pair at or above k: p is found, and no key below that of p and at or above k
  pub record IsCeiling (p : K × V) : Type 0 where
    pub there : find R p.0 es ≡ Some p
    pub within : IsTrue (is_le (R k p.0))
    pub first : (j : K) → R j p.0 ≡ Less → IsTrue (is_le (R k j)) → find R j es ≡ None

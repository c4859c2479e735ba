-- Bounds that are forms of keys, along a walk.
use Rattle.rpds_core.specs.Keys.{IsSearch}
use Rattle.rpds_red_black.specs.TreeWalk.{form_along}
use Rattle.rpds_red_black.proofs.Words.{◌≡◌, Bool, true, false, arith, Ordering, Less, Greater, Bound, Included, Excluded, Unbounded}
use Rattle.rpds_red_black.proofs.Words.{bound_map, is_from, is_up_to, is_le, is_lt, ordering_reverse, IsTotalOrder, cmp_along}
use Rattle.rpds_red_black.proofs.Bounds.{IsUpward}
use Rattle.rpds_red_black.proofs.Pairs.{over_tied}

-- the end is the start of a walk from the back
pub from_form_end : {S K : Type 0} (order : S → K → Ordering) (turned : K → S → Ordering) (end : Bound S) (k : K)
    → is_from (form_along true order turned) end k ≡ is_up_to turned end k
from_form_end order turned end k = grind arith

module _ {K : Type 0} {R : K → K → Ordering} (o : IsTotalOrder R) {q : K → Ordering} (finds : IsSearch R q) (j k : K) where
  -- what is above a key that isn't below the form is above the form
  le_on : R j k ≡ Less → is_le (q j) ≡ true → q k ≡ Less
  le_on less p = grind (arith, finds.below j k, finds.tied j k)

  -- what is below a key that isn't above the form is below the form
  ge_on : R k j ≡ Less → is_le (ordering_reverse (q j)) ≡ true → q k ≡ Greater
  ge_on less p = grind (arith, finds.above k j, over_tied o finds j k)

module _ {Q S K : Type 0} {R : K → K → Ordering} (o : IsTotalOrder R) (seen : Q → S) (order : S → K → Ordering) (turned : K → S → Ordering)
    (finds : (form : Q) → IsSearch R (order (seen form))) (turns : (form : Q) (key : K) → turned key (seen form) ≡ ordering_reverse (order (seen form) key)) where
  -- a walk that starts at a form gives each key behind one that it gives
  pub le_upward : (back : Bool) (form : Q) → IsUpward (cmp_along back R) (λ k. is_le (form_along back order turned (seen form) k))
  le_upward true form j k less p = rw (turns form k, ge_on o (finds form) j k less (rw (turns form j) at p))
  le_upward false form j k less p = rw (le_on o (finds form) j k less p)

  lt_upward : (back : Bool) (form : Q) → IsUpward (cmp_along back R) (λ k. is_lt (form_along back order turned (seen form) k))
  lt_upward true form j k less p = grind (arith, turns form k, turns form j, ge_on o (finds form) j k less, p)
  lt_upward false form j k less p = grind (arith, le_on o (finds form) j k less, p)

  pub bound_upward : (back : Bool) (bound : Bound Q) → IsUpward (cmp_along back R) (is_from (form_along back order turned) (bound_map seen bound))
  bound_upward back (Included form) = le_upward back form
  bound_upward back (Excluded form) = lt_upward back form
  bound_upward back Unbounded = λ j k less p. p

  -- the start and the end of a range are such bounds
  pub start_upward : (start : Bound Q) → IsUpward R (is_from order (bound_map seen start))
  start_upward (Included form) = le_upward false form
  start_upward (Excluded form) = lt_upward false form
  start_upward Unbounded = λ j k less p. p

  pub end_upward : (end : Bound Q) → IsUpward (cmp_along true R) (is_up_to turned (bound_map seen end))
  end_upward (Included form) = le_upward true form
  end_upward (Excluded form) = lt_upward true form
  end_upward Unbounded = λ j k less p. p

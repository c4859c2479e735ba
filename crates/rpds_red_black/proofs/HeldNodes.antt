-- A tree opened at its root, and the node that becomes its root.
use Rattle.rpds_red_black.specs.Sides.{with_near}
use Rattle.rpds_red_black.proofs.Words.{◌≡◌, ◌<◌, ℕ, Bool, List, length, refl, arith, Rc, Color, Branch, Node, Shape, IsWhole, counted, painted, shape_of, near_side}
use Rattle.rpds_red_black.proofs.Node.{near_below}
use Rattle.rpds_red_black.proofs.OpenNodes.{IsOpened}
use Rattle.rpds_red_black.proofs.PairPositions.{length_of_sides}

-- the tree s at its root, a node that ends behind its pointer as it is left
pub record IsHeld {K V A : Type 0} (s : Shape K V) (c : Color) (count : ℕ) (n : Node K V A) (behind : Node K V A → Rc (Node K V A) A) : Type 0 where
  pub opened : IsOpened s (painted c n)
  pub size : count ≡ counted (length s.entries)
  pub ends : (m : Node K V A) → (behind m).value ≡ m

module _ {K V A : Type 0} {s : Shape K V} {c : Color} {count : ℕ} {n : Node K V A} {behind : Node K V A → Rc (Node K V A) A}
    (h : IsHeld s c count n behind) where
  -- the tree, once its root is left as m
  abbrev pub left_as : Node K V A → Shape K V
  left_as m = shape_of (painted c (behind m).value)

  -- a side, the right one for `true`
  module _ (right : Bool) where
    pub side_lower : (near_side right n).depth < s.depth
    side_lower = near_below right c s n h.opened.same

    -- with other pairs, as many
    pub whole_with : (es : List (K × V)) → length es ≡ length (near_side right n).entries
        → IsWhole (Branch c count (behind (with_near right n (record (near_side right n) { entries = es }))))
    whole_with es many =
        let m = with_near right n (record (near_side right n) { entries = es }) in
        grind (arith, h.ends m, h.opened.same, h.opened.even, h.opened.sound, h.size, many, length_of_sides right n, length_of_sides right m)

    pub whole_kept : {d : Shape K V} → d ≡ near_side right n → IsWhole (Branch c count (behind (with_near right n d)))
    whole_kept e = rw e (whole_with (near_side right n).entries refl)

    pub side_kept : {d : Shape K V} → d ≡ near_side right n → left_as (with_near right n d) ≡ s
    side_kept e = rw e (grind (arith, h.ends (with_near right n (near_side right n)), h.opened.same))

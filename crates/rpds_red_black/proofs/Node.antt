-- A tree that was opened, at its node.
use Rattle.rpds_red_black.proofs.Words.{◌≡◌, ℕ, ◌<◌, Bool, length, sym, ap, subst, ◌∙◌, arith, Ordering, Rc, Color, Black, Link, Leaf, Branch, Node, IsAscending}
use Rattle.rpds_red_black.proofs.Words.{Shape, counted, painted, pairs_of, shape_of, shape_of_link, IsEven, IsEvenLink, IsWhole, near_side}
use Rattle.rpds_red_black.proofs.Insertion.{left_ascends, right_ascends}

-- the shape of a tree whose root is the node n
pub seen : {K V A : Type 0} {s : Shape K V} {root : Link K V A} {c : Color} {count : ℕ} {n : Rc (Node K V A) A} → shape_of_link root ≡ s → root ≡ Branch c count n → s ≡ shape_of (painted c n.value)
seen view is = sym view ∙ ap shape_of_link is

-- the sides of that node
pub even_at : {K V A : Type 0} {root : Link K V A} {c : Color} {count : ℕ} {n : Rc (Node K V A) A} → IsWhole root → root ≡ Branch c count n → IsEven (painted c n.value)
even_at whole is = (subst IsEvenLink is whole.even).0

-- and the count in its link
pub counted_at : {K V A : Type 0} {s : Shape K V} {root : Link K V A} {c : Color} {count : ℕ} {n : Rc (Node K V A) A} → shape_of_link root ≡ s → root ≡ Branch c count n → IsWhole root → count ≡ counted (length s.entries)
counted_at view is whole = (subst IsEvenLink is whole.even).1 ∙ ap (λ (s : Shape _ _). counted (length s.entries)) (sym (seen view is))

-- a tree without a root has no levels
pub rootless : {K V A C : Type 0} {s : Shape K V} {root : Link K V A} → shape_of_link root ≡ s → root ≡ Leaf → 0 < s.depth → C
rootless view is some = absurd (omega (arith, some, ap (λ (s : Shape _ _). s.depth) (sym view ∙ ap shape_of_link is)))

-- a side of that node is less deep than the tree
pub near_below : {K V A : Type 0} (r : Bool) (c : Color) (s : Shape K V) (n : Node K V A) → s ≡ shape_of (painted c n) → (near_side r n).depth < s.depth
near_below r c s n is = grind (arith, is)

-- and its keys ascend too
pub near_ascends : {K V A : Type 0} (R : K → K → Ordering) (r : Bool) (n : Node K V A) → IsAscending R (pairs_of n) → IsAscending R (near_side r n).entries
near_ascends R r n rising = grind (arith, left_ascends R (painted Black n) rising, right_ascends R (painted Black n) rising)

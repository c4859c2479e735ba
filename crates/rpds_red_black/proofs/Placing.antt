-- A node that takes a pair in, lets one go, or is cut.
use Rattle.rpds_red_black.specs.Removal.{IsRemains, IsRemainsOver}
use Rattle.rpds_red_black.specs.SeekCuts.{IsCutOf, IsExtendedAfter, IsExtendedBefore, IsWithoutSought}
use Rattle.rpds_red_black.specs.Seeks.{IsSoughtBy, Looks}
use Rattle.rpds_red_black.specs.declared.seek.Aim.TheVariants as aim
use Rattle.rpds_red_black.specs.declared.split.Split.{Split}
use Rattle.rpds_red_black.proofs.Words.{◌≡◌, ◌+◌, false, true, List, ◌∷◌, ◌++◌, Some, None, Result, Ok, Err, IfOk, length, refl, sym, ap, ◌∙◌, arith}
use Rattle.rpds_red_black.proofs.Words.{Rc, Entry, Replaced, Color, Node, Side, IsGrownTo, painted, shape_of, pair_of, IsEven, Painted, Loss}
use Rattle.rpds_red_black.proofs.Words.{Shape, append_assoc, append-nil, items_of, pair_lent, rank, IsJoined, leaf, length-append}
use Rattle.rpds_red_black.proofs.Ranks.{rank_left, rank_right}

length_same : {A : Type 0} (l : List A) (e f : A) (r : List A) → length (l ++ e ∷ r) ≡ length (l ++ f ∷ r) + 0
length_same l e f r = omega (arith, length-append l (e ∷ r), length-append l (f ∷ r))

-- the pair comes into the place of the node's own
pub placed_here : {K V A : Type 0} (e : Rc (Entry K V) A) (n : Painted K V A) (es : List (K × V)) → es ≡ n.left.entries ++ pair_of e.value ∷ n.right.entries
    → IsEven n → (lean : Side) → IsGrownTo es n lean Replaced (record n { entry = e })
placed_here e n es is even lean = grind (arith, is, length_same n.left.entries (pair_of e.value) (pair_of n.entry.value) n.right.entries, even)

-- what is left of a node without the pair that a look finds
module _ {S K V A : Type 0} (ready : S → List (K × V) → Type 0) (w : Looks S K V) (s : S) (n : Painted K V A) where
  pub without_here : {E : Type 0} (loss : Loss) → IsSoughtBy ready w s (record { left = n.left; entry = n.entry; right = n.right }) aim.Here
      → (result : Result (Shape K V) E) → IfOk result (IsRemains (n.left.entries ++ n.right.entries) (shape_of n) loss) → IfOk result (IsWithoutSought w s (shape_of n) loss)
  without_here loss h (Err x) made = tt
  without_here loss h (Ok left) made = grind (arith, made.taken, made.pairs, made.lowered, h.0, h.1, h.2)

  pub without_left : {E : Type 0} (t : S) → IsSoughtBy ready w s (record { left = n.left; entry = n.entry; right = n.right }) (aim.Left t)
      → (near_loss : Loss) (below : Shape K V) (loss : Loss) → IsWithoutSought w t n.left near_loss below
      → (result : Result (Shape K V) E) → IfOk result (IsRemainsOver false n near_loss below loss) → IfOk result (IsWithoutSought w s (shape_of n) loss)
  without_left t h near_loss below loss i (Err x) made = tt
  without_left t h near_loss below loss i (Ok left) made =
      grind (arith, made.same, made.pairs, made.lowered, i.found, i.pairs, h.1, h.2, h.3, append_assoc (w.before t n.left.entries) (w.after t n.left.entries) (pair_of n.entry.value ∷ n.right.entries))

  pub without_right : {E : Type 0} (t : S) → IsSoughtBy ready w s (record { left = n.left; entry = n.entry; right = n.right }) (aim.Right t)
      → (near_loss : Loss) (below : Shape K V) (loss : Loss) → IsWithoutSought w t n.right near_loss below
      → (result : Result (Shape K V) E) → IfOk result (IsRemainsOver true n near_loss below loss) → IfOk result (IsWithoutSought w s (shape_of n) loss)
  without_right t h near_loss below loss i (Err x) made = tt
  without_right t h near_loss below loss i (Ok left) made =
      grind (arith, made.same, made.pairs, made.lowered, i.found, i.pairs, h.1, h.2, h.3, append_assoc n.left.entries (pair_of n.entry.value ∷ w.before t n.right.entries) (w.after t n.right.entries))

-- a tree that is cut, from the side that was cut
module _ {K V A : Type 0} (t : Shape K V) (n : Painted K V A) (even : IsEven n) (is : t ≡ shape_of n) (s : Split K V A) where
  module _ (whole far : Shape K V) (x : Rc (Entry K V) A) (same : x.value ≡ n.entry.value) where
    pub extended_after : far ≡ n.right → IsJoined (s.after.entries ++ pair_of x.value ∷ far.entries) s.after far whole
        → IsExtendedAfter t n s (record { before = s.before; found = s.found; after = whole })
    extended_after far_is joins = record {
      before = refl;
      found = refl;
      after = joins.pairs ∙ ap (λ z. s.after.entries ++ pair_of z ∷ far.entries) same ∙ ap (λ (z : Shape K V). s.after.entries ++ pair_of n.entry.value ∷ z.entries) far_is;
      low = λ low. rw is (omega (arith, low, joins.low, ap (λ (z : Shape K V). rank z) far_is, rank_left n even, rank_right n even));
    }

    pub extended_before : far ≡ n.left → IsJoined (far.entries ++ pair_of x.value ∷ s.before.entries) far s.before whole
        → IsExtendedBefore t n s (record { before = whole; found = s.found; after = s.after })
    extended_before far_is joins = record {
      before = joins.pairs ∙ ap (λ z. far.entries ++ pair_of z ∷ s.before.entries) same ∙ ap (λ (z : Shape K V). z.entries ++ pair_of n.entry.value ∷ s.before.entries) far_is;
      found = refl;
      after = refl;
      low = λ low. rw is (omega (arith, low, joins.low, ap (λ (z : Shape K V). rank z) far_is, rank_left n even, rank_right n even));
    }

  module _ (whole : Shape K V) (all : whole ≡ t) (none : pair_lent s.found ≡ None) where
    pub shared_after : s.before ≡ leaf → n.left.entries ≡ s.before.entries ++ (items_of (pair_lent s.found) ++ s.after.entries)
        → IsExtendedAfter t n s (record { before = s.before; found = s.found; after = whole })
    shared_after empty cut =
        let left : n.left.entries ≡ s.after.entries = rw (empty, none) at cut in
        record {
          before = refl;
          found = refl;
          after = ap (λ (z : Shape K V). z.entries) (all ∙ is) ∙ ap (λ z. z ++ pair_of n.entry.value ∷ n.right.entries) left;
          low = λ low. rw all (omega arith);
        }

    pub shared_before : s.after ≡ leaf → n.right.entries ≡ s.before.entries ++ (items_of (pair_lent s.found) ++ s.after.entries)
        → IsExtendedBefore t n s (record { before = whole; found = s.found; after = s.after })
    shared_before empty cut =
        let right : n.right.entries ≡ s.before.entries = (rw (empty, none) at cut) ∙ append-nil s.before.entries in
        record {
          before = ap (λ (z : Shape K V). z.entries) (all ∙ is) ∙ ap (λ z. n.left.entries ++ pair_of n.entry.value ∷ z) right;
          found = refl;
          after = refl;
          low = λ low. rw all (omega arith);
        }

-- the parts of a cut tree are all of it
module _ {S K V A : Type 0} (ready : S → List (K × V) → Type 0) (w : Looks S K V)
    (parts : (s : S) (es : List (K × V)) → ready s es → es ≡ w.before s es ++ (items_of (w.found s es) ++ w.after s es))
    (s : S) (tree : Shape K V) (r : ready s tree.entries) (c : Split K V A) (cut : IsCutOf w s tree c) where
  pub cut_parts : tree.entries ≡ c.before.entries ++ (items_of (pair_lent c.found) ++ c.after.entries)
  cut_parts = rw (cut.before, cut.found, cut.after) (parts s tree.entries r)

  pub cut_size : length tree.entries ≡ length c.before.entries + (length (items_of (pair_lent c.found)) + length c.after.entries)
  cut_size = ap length cut_parts ∙ length-append c.before.entries (items_of (pair_lent c.found) ++ c.after.entries)
      ∙ ap (λ x. length c.before.entries + x) (length-append (items_of (pair_lent c.found)) c.after.entries)

-- a cut at what is looked for, told at a node
module _ {S K V A : Type 0} (ready : S → List (K × V) → Type 0) (w : Looks S K V) (s : S) (n : Node K V A) (color : Color) (even : IsEven (painted color n)) where
  pub cut_here : (c : Split K V A) → IsSoughtBy ready w s n aim.Here → c.before ≡ n.left → pair_lent c.found ≡ Some (pair_of n.entry.value) → c.after ≡ n.right
      → IsCutOf w s (shape_of (painted color n)) c
  cut_here c h before found after = record {
    before = ap (λ (z : Shape K V). z.entries) before ∙ sym h.0;
    found = found ∙ sym h.1;
    after = ap (λ (z : Shape K V). z.entries) after ∙ sym h.2;
    before_low = rw before (omega (arith, rank_left (painted color n) even));
    after_low = rw after (omega (arith, rank_right (painted color n) even));
  }

  pub cut_left : {E : Type 0} (t : S) (side : Split K V A) → IsSoughtBy ready w s n (aim.Left t) → IsCutOf w t n.left side → (tree : Shape K V) → tree ≡ shape_of (painted color n)
      → (result : Result (Split K V A) E) → IfOk result (IsExtendedAfter tree (painted color n) side) → IfOk result (IsCutOf w s tree)
  cut_left t side h cut tree is (Err x) over = tt
  cut_left t side h cut tree is (Ok c) over = record {
    before = ap (λ (z : Shape K V). z.entries) over.before ∙ cut.before ∙ sym h.1 ∙ ap (λ (z : Shape K V). w.before s z.entries) (sym is);
    found = ap pair_lent over.found ∙ cut.found ∙ sym h.2 ∙ ap (λ (z : Shape K V). w.found s z.entries) (sym is);
    after = over.after ∙ ap (λ z. z ++ pair_of n.entry.value ∷ n.right.entries) cut.after ∙ sym h.3 ∙ ap (λ (z : Shape K V). w.after s z.entries) (sym is);
    before_low = rw is (omega (arith, ap (λ (z : Shape K V). rank z) over.before, cut.before_low, rank_left (painted color n) even));
    after_low = over.low cut.after_low;
  }

  pub cut_right : {E : Type 0} (t : S) (side : Split K V A) → IsSoughtBy ready w s n (aim.Right t) → IsCutOf w t n.right side → (tree : Shape K V) → tree ≡ shape_of (painted color n)
      → (result : Result (Split K V A) E) → IfOk result (IsExtendedBefore tree (painted color n) side) → IfOk result (IsCutOf w s tree)
  cut_right t side h cut tree is (Err x) over = tt
  cut_right t side h cut tree is (Ok c) over = record {
    before = over.before ∙ ap (λ z. n.left.entries ++ pair_of n.entry.value ∷ z) cut.before ∙ sym h.1 ∙ ap (λ (z : Shape K V). w.before s z.entries) (sym is);
    found = ap pair_lent over.found ∙ cut.found ∙ sym h.2 ∙ ap (λ (z : Shape K V). w.found s z.entries) (sym is);
    after = ap (λ (z : Shape K V). z.entries) over.after ∙ cut.after ∙ sym h.3 ∙ ap (λ (z : Shape K V). w.after s z.entries) (sym is);
    before_low = over.low cut.before_low;
    after_low = rw is (omega (arith, ap (λ (z : Shape K V). rank z) over.after, cut.after_low, rank_right (painted color n) even));
  }

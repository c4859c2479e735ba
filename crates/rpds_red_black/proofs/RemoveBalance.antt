-- The balance after a removal.
use Rattle.rpds_red_black.specs.Removal.{IsBalanced, IsRebalanced}
use Rattle.rpds_red_black.proofs.Words.{◌≡◌, ◌+◌, Bool, List, Result, Ok, Err, IfOk, refl, sym, ap, ◌∙◌, arith, Rc, Entry, Loss, Removed, Color, Red, Black, Shape}
use Rattle.rpds_red_black.proofs.Words.{blackness, node_of, joined, is_taken, lost, IsDarker, Node, shape_of, pair_of, IsEven, IsRedRoot, painted, Painted}
use Rattle.rpds_red_black.proofs.Sides.{black_of, color_of, even_of, far_part, joined_assoc, joined_of, joined_turned, level_sides, near_part, shape_black, shape_joined}
use Rattle.rpds_red_black.proofs.Take.{over_black}

-- the sibling s is black
module _ {K V A : Type 0} (r : Bool) (c : Color) (near : Shape K V) (e : Rc (Entry K V) A) (s : Painted K V A) (even : IsEven s) (black : s.color ≡ Black) (lower : near.black + 1 ≡ (shape_of s).black) where
  abbrev Balanced : Shape K V → Type 0
  Balanced t = IsBalanced (joined r near.entries (pair_of e.value) (shape_of s).entries) (shape_of s).black c t

  near_black : near.black ≡ (near_part r s).black
  near_black = omega (arith, lower, shape_black r s even, ap blackness black)

  -- and its far nephew red
  module _ (low high : Shape K V) (low_is : low ≡ shape_of (node_of r Black near e (near_part r s))) (dark : IsDarker (far_part r s) high) where
    low_black : low.black ≡ near.black + 1
    low_black = ap (λ (x : Shape K V). x.black) low_is ∙ black_of r Black near e (near_part r s) near_black

    far_level : low.black ≡ high.black
    far_level = omega (arith, low_black, dark.black, near_black, level_sides r s even)

    pub even_far : (above : Rc (Entry K V) A) → IsEven (node_of r c low above high)
    even_far above = even_of r c low above high far_level (over_black c low (ap (λ (x : Shape K V). x.color) low_is ∙ color_of r Black near e (near_part r s))) (over_black c high dark.color)

    pub balanced_far : {E : Type 0} (above : Rc (Entry K V) A) → above.value ≡ s.entry.value → (result : Result (Shape K V) E) → IfOk result (λ t. t ≡ shape_of (node_of r c low above high)) → IfOk result Balanced
    balanced_far above same (Err x) made = tt
    balanced_far above same (Ok t) made =
        let N = (near_part r s).entries in
        let F = (far_part r s).entries in
        let low_pairs : low.entries ≡ joined r near.entries (pair_of e.value) N = ap (λ (x : Shape K V). x.entries) low_is ∙ joined_of r Black near e (near_part r s) in
        let above_pair : pair_of above.value ≡ pair_of s.entry.value = ap pair_of same in
        rw made record {
          pairs = joined_of r c low above high ∙ rw (low_pairs, dark.pairs, above_pair) (joined_assoc r near.entries N F (pair_of e.value) (pair_of s.entry.value)) ∙ ap (λ x. joined r near.entries (pair_of e.value) x) (sym (shape_joined r s));
          black = omega (arith, black_of r c low above high far_level, low_black, lower);
          color = color_of r c low above high;
        }

  -- its near nephew is red, with the root q
  module _ (q : Node K V A) (root : IsRedRoot (near_part r s) q) (low high : Shape K V) (own : Rc (Entry K V) A) (low_is : low ≡ shape_of (node_of r Black near e (near_part r (painted Red q)))) (high_is : high ≡ shape_of (node_of r Black (far_part r (painted Red q)) own (far_part r s))) where
    nephew_black : (near_part r s).black ≡ (near_part r (painted Red q)).black
    nephew_black = omega (arith, ap (λ (x : Shape K V). x.black) root.same, shape_black r (painted Red q) root.even)

    low_level : near.black ≡ (near_part r (painted Red q)).black
    low_level = near_black ∙ nephew_black

    high_level : (far_part r (painted Red q)).black ≡ (far_part r s).black
    high_level = omega (arith, nephew_black, level_sides r (painted Red q) root.even, level_sides r s even)

    low_taller : low.black ≡ near.black + 1
    low_taller = ap (λ (x : Shape K V). x.black) low_is ∙ black_of r Black near e (near_part r (painted Red q)) low_level

    high_taller : high.black ≡ near.black + 1
    high_taller = omega (arith, ap (λ (x : Shape K V). x.black) high_is, black_of r Black (far_part r (painted Red q)) own (far_part r s) high_level, low_level, level_sides r (painted Red q) root.even)

    near_level : low.black ≡ high.black
    near_level = low_taller ∙ sym high_taller

    pub even_near : (above : Rc (Entry K V) A) → IsEven (node_of r c low above high)
    even_near above = even_of r c low above high near_level (over_black c low (ap (λ (x : Shape K V). x.color) low_is ∙ color_of r Black near e (near_part r (painted Red q)))) (over_black c high (ap (λ (x : Shape K V). x.color) high_is ∙ color_of r Black (far_part r (painted Red q)) own (far_part r s)))

    pub balanced_near : {E : Type 0} (above : Rc (Entry K V) A) → own.value ≡ s.entry.value → above.value ≡ q.entry.value → (result : Result (Shape K V) E) → IfOk result (λ t. t ≡ shape_of (node_of r c low above high)) → IfOk result Balanced
    balanced_near above own_is above_is (Err x) made = tt
    balanced_near above own_is above_is (Ok t) made =
        let N = (near_part r (painted Red q)).entries in
        let M = (far_part r (painted Red q)).entries in
        let F = (far_part r s).entries in
        let low_pairs : low.entries ≡ joined r near.entries (pair_of e.value) N = ap (λ (x : Shape K V). x.entries) low_is ∙ joined_of r Black near e (near_part r (painted Red q)) in
        let high_pairs : high.entries ≡ joined r M (pair_of s.entry.value) F = ap (λ (x : Shape K V). x.entries) high_is ∙ joined_of r Black (far_part r (painted Red q)) own (far_part r s) ∙ ap (λ x. joined r M (pair_of x) F) own_is in
        let above_pair : pair_of above.value ≡ pair_of q.entry.value = ap pair_of above_is in
        let old_near : (near_part r s).entries ≡ joined r N (pair_of q.entry.value) M = ap (λ (x : Shape K V). x.entries) root.same ∙ shape_joined r (painted Red q) in
        rw made record {
          pairs = joined_of r c low above high ∙ rw (low_pairs, high_pairs, above_pair) (joined_turned r near.entries N M F (pair_of e.value) (pair_of q.entry.value) (pair_of s.entry.value)) ∙ joined_assoc r near.entries (joined r N (pair_of q.entry.value) M) F (pair_of e.value) (pair_of s.entry.value) ∙ ap (λ x. joined r near.entries (pair_of e.value) x) (sym (shape_joined r s ∙ ap (λ x. joined r x (pair_of s.entry.value) F) old_near));
          black = omega (arith, black_of r c low above high near_level, low_taller, lower);
          color = color_of r c low above high;
        }

-- the whole is as high as before
pub rebalanced_same : {K V A E : Type 0} (r : Bool) (near : List (K × V)) (e : K × V) (c : Color) (far : Shape K V) (root : Node K V A) → far.color ≡ Black → far ≡ shape_of (painted far.color root) → (result : Result (Shape K V) E) → IfOk result (IsBalanced (joined r near e (shape_of (painted Black root)).entries) (shape_of (painted Black root)).black c) → IfOk result (IsRebalanced (joined r near e far.entries) far.black c Removed)
rebalanced_same r near e c far root black same (Err x) balanced = tt
rebalanced_same r near e c far root black same (Ok t) balanced =
    let whole : far ≡ shape_of (painted Black root) = same ∙ ap (λ x. shape_of (painted x root)) black in
    rw whole (grind (arith, balanced, balanced.pairs, balanced.black, balanced.color))

-- the sibling s is red, and what is below it is balanced
module _ {K V A : Type 0} (r : Bool) (near : Shape K V) (e : Rc (Entry K V) A) (s : Painted K V A) (even : IsEven s) (red : s.color ≡ Red) (near_loss : Loss) (below : Shape K V) (m : IsRebalanced (joined r near.entries (pair_of e.value) (near_part r s).entries) (near_part r s).black Red near_loss below) where
  below_black : below.black ≡ (far_part r s).black
  below_black = omega (arith, m.black, m.red refl, level_sides r s even)

  module _ (above : Rc (Entry K V) A) (beyond : Shape K V) (is : beyond ≡ far_part r s) where
    above_level : below.black ≡ beyond.black
    above_level = below_black ∙ sym (ap (λ (x : Shape K V). x.black) is)

    pub even_above : IsEven (node_of r Black below above beyond)
    even_above = even_of r Black below above beyond above_level tt tt

    pub rebalanced_above : {E : Type 0} (c : Color) (far : Shape K V) (loss : Loss) → c ≡ Black → far ≡ shape_of s → above.value ≡ s.entry.value → loss ≡ Removed → (result : Result (Shape K V) E) → IfOk result (λ t. t ≡ shape_of (node_of r Black below above beyond)) → IfOk result (IsRebalanced (joined r near.entries (pair_of e.value) far.entries) far.black c loss)
    rebalanced_above c far loss c_is far_is same loss_is (Err x) whole = tt
    rebalanced_above c far loss c_is far_is same loss_is (Ok left) whole =
        let N = (near_part r s).entries in
        let F = (far_part r s).entries in
        let above_pair : pair_of above.value ≡ pair_of s.entry.value = ap pair_of same in
        let beyond_pairs : beyond.entries ≡ F = ap (λ (x : Shape K V). x.entries) is in
        rw (c_is, far_is) record {
          pairs = ap (λ (x : Shape K V). x.entries) whole ∙ joined_of r Black below above beyond ∙ rw (m.pairs, above_pair, beyond_pairs) (joined_assoc r near.entries N F (pair_of e.value) (pair_of s.entry.value)) ∙ ap (λ x. joined r near.entries (pair_of e.value) x) (sym (shape_joined r s));
          taken = ap is_taken loss_is;
          black = omega (arith, ap (λ (x : Shape K V). x.black) whole, black_of r Black below above beyond above_level, below_black, shape_black r s even, ap blackness red, level_sides r s even, ap lost loss_is);
          red = λ _. ap lost loss_is;
          stays = λ _. ap (λ (x : Shape K V). x.color) whole ∙ color_of r Black below above beyond;
        }

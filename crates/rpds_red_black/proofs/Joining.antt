-- Two trees in one: a lower tree put below a higher one.
use Rattle.rpds_red_black.proofs.Words.{◌≡◌, ◌≢◌, ℕ, ◌+◌, ◌<◌, ◌≤◌, ◌⊎◌, inl, inr, Bool, false, List, ◌∷◌, ◌++◌, Option, Some, None, slice_get, Result, Ok, Err}
use Rattle.rpds_red_black.proofs.Words.{IfOk, refl, sym, ap, ◌∙◌, arith, Rc, within_then, IsWithin, Entry, Steps, Loss, Red, Black, Node, IsJoined, IsOfHeight}
use Rattle.rpds_red_black.proofs.Words.{redness, IsEndTaken, Shape, blackness, branch, node_of, joined, IsDarker, painted, shape_of, pair_of, IsEven, IsRedRoot}
use Rattle.rpds_red_black.proofs.Words.{Painted, near_side, far_side}
use Rattle.rpds_red_black.proofs.Ranks.{red_or_black}
use Rattle.rpds_red_black.proofs.Sides.{black_of, color_of, even_of, joined_assoc, joined_of, level_sides, far_part, near_part, over_far, shape_black, shape_joined}
use Rattle.rpds_red_black.proofs.Take.{some_same}

-- a black node n, whose red near child q has another tree on its near side now
module _ {K V A : Type 0} (r : Bool) (n q : Node K V A) (even : IsEven (painted Black n)) (root : IsRedRoot (near_side r n) q) (near : Shape K V)
    (level : near.black ≡ (near_side r q).black) where
  beside_level : near.black ≡ (far_side r q).black
  beside_level = level ∙ level_sides r (painted Red q) root.even

  far_level : near.black ≡ (far_side r n).black
  far_level = omega (arith, level, shape_black r (painted Red q) root.even, ap (λ (s : Shape K V). s.black) root.same, level_sides r (painted Black n) even)

  whole_high : (shape_of (painted Black n)).black ≡ near.black + 1
  whole_high = omega (arith, shape_black r (painted Black n) even, level_sides r (painted Black n) even, far_level)

  abbrev all : List (K × V)
  all = joined r near.entries (pair_of q.entry.value) (joined r (far_side r q).entries (pair_of n.entry.value) (far_side r n).entries)

  module _ (low high : Rc (Entry K V) A) (beside far : Shape K V) (beside_is : beside ≡ far_side r q) where
    level_low : near.black ≡ beside.black
    level_low = beside_level ∙ sym (ap (λ (s : Shape K V). s.black) beside_is)

    dark_beside : beside.color ≡ Black
    dark_beside = ap (λ (s : Shape K V). s.color) beside_is ∙ over_far r (painted Red q) root.even

    -- a red node over the tree, where that has a black root
    pub even_low : near.color ≡ Black → IsEven (node_of r Red near low beside)
    even_low black = even_of r Red near low beside level_low black dark_beside

    -- and a black one
    pub even_low_black : IsEven (node_of r Black near low beside)
    even_low_black = even_of r Black near low beside level_low tt tt

    -- a red node over the other two trees
    pub even_far : far ≡ far_side r n → far.color ≡ Black → IsEven (node_of r Red beside high far)
    even_far far_is black = even_of r Red beside high far (omega (arith, level_low, far_level, ap (λ (s : Shape K V). s.black) far_is)) dark_beside black

    module _ (low_is : low.value ≡ q.entry.value) (high_is : high.value ≡ n.entry.value) (far_is : far.entries ≡ (far_side r n).entries) where
      rest : joined r beside.entries (pair_of high.value) far.entries ≡ joined r (far_side r q).entries (pair_of n.entry.value) (far_side r n).entries
      rest = ap (λ (s : Shape K V). joined r s.entries (pair_of high.value) far.entries) beside_is ∙ ap (λ x. joined r (far_side r q).entries (pair_of x)
          far.entries) high_is ∙ ap (λ x. joined r (far_side r q).entries (pair_of n.entry.value) x) far_is

      rest_after : joined r near.entries (pair_of low.value) (joined r beside.entries (pair_of high.value) far.entries) ≡ all
      rest_after = ap (λ x. joined r near.entries (pair_of low.value) x) rest ∙ ap (λ x. joined r near.entries (pair_of x)
          (joined r (far_side r q).entries (pair_of n.entry.value) (far_side r n).entries)) low_is

      low_after : (t : Shape K V) → t.entries ≡ joined r near.entries (pair_of low.value) beside.entries
          → joined r t.entries (pair_of high.value) far.entries ≡ all
      low_after t is = ap (λ x. joined r x (pair_of high.value) far.entries) is ∙ joined_assoc r near.entries beside.entries far.entries (pair_of low.value)
          (pair_of high.value) ∙ rest_after

    module _ (t : Shape K V) where
      -- the red node below a black one
      module _ (made : t ≡ shape_of (node_of r Red near low beside)) (far_is : far ≡ far_side r n) where
        level_high : t.black ≡ far.black
        level_high = omega (
          arith,
          ap (λ (s : Shape K V). s.black) made,
          black_of r Red near low beside level_low,
          far_level,
          ap (λ (s : Shape K V). s.black) far_is,
        )

        pub even_high : IsEven (node_of r Black t high far)
        even_high = even_of r Black t high far level_high tt tt

        pub linked_black : {E : Type 0} (result : Result (Shape K V) E) → low.value ≡ q.entry.value → high.value ≡ n.entry.value
            → IfOk result (λ w. w ≡ shape_of (node_of r Black t high far)) → IfOk result (IsOfHeight all (shape_of (painted Black n)).black)
        linked_black (Err x) low_is high_is is = tt
        linked_black (Ok w) low_is high_is is = rw is record {
          pairs = joined_of r Black t high far ∙ low_after low_is high_is (ap (λ (s : Shape K V). s.entries) far_is) t
              (ap (λ (s : Shape K V). s.entries) made ∙ joined_of r Red near low beside);
          high = omega (
            arith,
            black_of r Black t high far level_high,
            ap (λ (s : Shape K V). s.black) made,
            black_of r Red near low beside level_low,
            whole_high,
          );
        }

      -- the black node below a red one, over whose other side there was a red one too
      module _ (made : t ≡ shape_of (node_of r Black near low beside)) (dark : IsDarker (far_side r n) far) where
        level_dark : t.black ≡ far.black
        level_dark = omega (arith, ap (λ (s : Shape K V). s.black) made, black_of r Black near low beside level_low, far_level, dark.black)

        pub even_red : IsEven (node_of r Red t high far)
        even_red = even_of r Red t high far level_dark (ap (λ (s : Shape K V). s.color) made ∙ color_of r Black near low beside) dark.color

        pub linked_red : {E : Type 0} (result : Result (Shape K V) E) → low.value ≡ q.entry.value → high.value ≡ n.entry.value
            → IfOk result (λ w. w ≡ shape_of (node_of r Red t high far)) → IfOk result (IsOfHeight all (shape_of (painted Black n)).black)
        linked_red (Err x) low_is high_is is = tt
        linked_red (Ok w) low_is high_is is = rw is record {
          pairs = joined_of r Red t high far ∙ low_after low_is high_is dark.pairs t (ap (λ (s : Shape K V). s.entries) made
              ∙ joined_of r Black near low beside);
          high = omega (
            arith,
            black_of r Red t high far level_dark,
            ap (λ (s : Shape K V). s.black) made,
            black_of r Black near low beside level_low,
            whole_high,
          );
        }

      -- the node rotated
      module _ (made : t ≡ shape_of (node_of r Red beside high far)) (far_is : far ≡ far_side r n) where
        level_far : beside.black ≡ far.black
        level_far = omega (arith, level_low, far_level, ap (λ (s : Shape K V). s.black) far_is)

        level_turned : near.black ≡ t.black
        level_turned = omega (arith, level_low, ap (λ (s : Shape K V). s.black) made, black_of r Red beside high far level_far)

        pub even_turned : IsEven (node_of r Black near low t)
        even_turned = even_of r Black near low t level_turned tt tt

        pub linked_turned : {E : Type 0} (result : Result (Shape K V) E) → low.value ≡ q.entry.value → high.value ≡ n.entry.value
            → IfOk result (λ w. w ≡ shape_of (node_of r Black near low t)) → IfOk result (IsOfHeight all (shape_of (painted Black n)).black)
        linked_turned (Err x) low_is high_is is = tt
        linked_turned (Ok w) low_is high_is is = rw is record {
          pairs = joined_of r Black near low t ∙ ap (λ x. joined r near.entries (pair_of low.value) x)
              (ap (λ (s : Shape K V). s.entries) made ∙ joined_of r Red beside high far) ∙ rest_after low_is high_is (ap (λ (s : Shape K V). s.entries) far_is);
          high = omega (arith, black_of r Black near low t level_turned, whole_high);
        }

module _ {K V A : Type 0} (r : Bool) where
  -- a red node over two trees as high as each other
  pub linked : {E : Type 0} (s low far : Shape K V) (e : Rc (Entry K V) A) (result : Result (Shape K V) E) → far ≡ s → low.black ≡ s.black
      → IfOk result (λ t. t ≡ shape_of (node_of r Red low e far)) → IfOk result (IsOfHeight (joined r low.entries (pair_of e.value) s.entries) s.black)
  linked s low far e (Err x) far_is level is = tt
  linked s low far e (Ok t) far_is level is =
      let even : low.black ≡ far.black = level ∙ sym (ap (λ (s : Shape K V). s.black) far_is) in
      rw is record {
        pairs = joined_of r Red low e far ∙ ap (λ (s : Shape K V). joined r low.entries (pair_of e.value) s.entries) far_is;
        high = omega (arith, black_of r Red low e far even, level);
      }

  -- a node n with a tree on its near side in which there is more, of another color
  module _ (n : Painted K V A) (even : IsEven n) (more : List (K × V)) (p : K × V) (near far : Shape K V)
      (joins : IsOfHeight (joined r more p (near_part r n).entries) (near_part r n).black near) (far_is : far ≡ far_part r n) (own : Rc (Entry K V) A)
      (own_is : own.value ≡ n.entry.value) where
    pub level_below : near.black ≡ far.black
    level_below = joins.high ∙ level_sides r n even ∙ sym (ap (λ (s : Shape K V). s.black) far_is)

    pub pairs_below : (shape_of (node_of r Black near own far)).entries ≡ joined r more p (shape_of n).entries
    pairs_below =
        joined_of r Black near own far ∙ ap (λ x. joined r x (pair_of own.value) far.entries) joins.pairs
        ∙ ap (λ (s : Shape K V). joined r (joined r more p (near_part r n).entries) (pair_of own.value) s.entries) far_is
        ∙ ap (λ x. joined r (joined r more p (near_part r n).entries) (pair_of x) (far_part r n).entries) own_is
        ∙ joined_assoc r more (near_part r n).entries (far_part r n).entries p (pair_of n.entry.value)
        ∙ ap (λ x. joined r more p x) (sym (shape_joined r n))

    pub even_below : IsEven (node_of r Black near own far)
    even_below = even_of r Black near own far level_below tt tt

    pub high_below : (shape_of (node_of r Black near own far)).black ≡ (near_part r n).black + 1
    high_below = omega (arith, black_of r Black near own far level_below, joins.high)

    -- with a black root, in the place of a red one
    pub joined_near : {E : Type 0} (result : Result (Shape K V) E) → n.color ≡ Red → IfOk result (λ t. t ≡ shape_of (node_of r Black near own far))
        → IfOk result (IsOfHeight (joined r more p (shape_of n).entries) ((shape_of n).black + 1))
    joined_near (Err x) red is = tt
    joined_near (Ok t) red is = rw is record { pairs = pairs_below; high = omega (arith, high_below, shape_black r n even, ap blackness red) }

    -- in the place of a black one
    pub joined_black : {E : Type 0} (result : Result (Shape K V) E) → n.color ≡ Black → IfOk result (λ t. t ≡ shape_of (node_of r Black near own far))
        → IfOk result (IsOfHeight (joined r more p (shape_of n).entries) (shape_of n).black)
    joined_black (Err x) black is = tt
    joined_black (Ok t) black is = rw is record { pairs = pairs_below; high = omega (arith, high_below, shape_black r n even, ap blackness black) }

  -- below a red child q of a black node n
  pub joined_over_red : {E : Type 0} (n q : Node K V A) (more : List (K × V)) (p : K × V) (below : Shape K V) (result : Result (Shape K V) E)
      → IsRedRoot (near_side r n) q → IsOfHeight (joined r more p (near_side r q).entries) (near_side r q).black below
      → IfOk result (IsOfHeight (joined r below.entries (pair_of q.entry.value) (joined r (far_side r q).entries (pair_of n.entry.value)
      (far_side r n).entries)) (shape_of (painted Black n)).black) → IfOk result (IsOfHeight (joined r more p (shape_of (painted Black n)).entries)
      (shape_of (painted Black n)).black)
  joined_over_red n q more p below (Err x) root joins is = tt
  joined_over_red n q more p below (Ok t) root joins is =
      let N = (near_side r q).entries in
      let B = (far_side r q).entries in
      let F = (far_side r n).entries in
      let near : (near_side r n).entries ≡ joined r N (pair_of q.entry.value) B = ap (λ (s : Shape K V). s.entries) root.same
      ∙ shape_joined r (painted Red q) in
      let whole : (shape_of (painted Black n)).entries ≡ joined r N (pair_of q.entry.value) (joined r B (pair_of n.entry.value) F) =
      shape_joined r (painted Black n) ∙ ap (λ x. joined r x (pair_of n.entry.value) F) near ∙ joined_assoc r N B F (pair_of q.entry.value)
      (pair_of n.entry.value) in
      record {
        pairs = is.pairs ∙ ap (λ x. joined r x (pair_of q.entry.value) (joined r B (pair_of n.entry.value) F)) joins.pairs
            ∙ joined_assoc r more N (joined r B (pair_of n.entry.value) F) p (pair_of q.entry.value) ∙ ap (λ x. joined r more p x) (sym whole);
        high = is.high;
      }

module _ {K V : Type 0} (r : Bool) (lower low taller : Shape K V) (p : K × V) (same : low.entries ≡ lower.entries) (is_lower : lower.black < taller.black) where
  -- below a red root, in whose place a black one is
  pub joined_dark : (t : Shape K V) → IsOfHeight (joined r low.entries p taller.entries) (taller.black + 1) t → taller.color ≡ Red → t.color ≡ Black
      → IsJoined (joined r lower.entries p taller.entries) lower taller t
  joined_dark t joins red black = record {
    pairs = joins.pairs ∙ ap (λ z. joined r z p taller.entries) same;
    over_a = omega (arith, joins.high, is_lower);
    over_b = omega (arith, joins.high);
    low = omega (arith, joins.high, ap redness red, ap redness black);
  }

  -- below a black root
  pub joined_still : (t : Shape K V) → IsOfHeight (joined r low.entries p taller.entries) taller.black t
      → IsJoined (joined r lower.entries p taller.entries) lower taller t
  joined_still t joins = record {
    pairs = joins.pairs ∙ ap (λ z. joined r z p taller.entries) same;
    over_a = omega (arith, joins.high, is_lower);
    over_b = omega (arith, joins.high);
    low = omega (arith, joins.high, red_or_black t.color);
  }

-- two trees as high as each other
module _ {K V : Type 0} (a b t : Shape K V) (p : K × V) (level : a.black ≡ b.black) where
  pub level_red : t ≡ branch Red a p b → IsJoined (a.entries ++ p ∷ b.entries) a b t
  level_red is = rw is record {
    pairs = refl;
    over_a = omega arith;
    over_b = omega (arith, level);
    low = omega (arith, level);
  }

  pub level_black : t ≡ branch Black a p b → (a.color ≡ Red) ⊎ (b.color ≡ Red) → IsJoined (a.entries ++ p ∷ b.entries) a b t
  level_black is (inl red) = let light : redness a.color ≡ 1 = ap redness red in rw is record {
    pairs = refl;
    over_a = omega arith;
    over_b = omega (arith, level);
    low = omega (arith, level, light);
  }
  level_black is (inr red) = let light : redness b.color ≡ 1 = ap redness red in rw is record {
    pairs = refl;
    over_a = omega arith;
    over_b = omega (arith, level);
    low = omega (arith, level, light);
  }

-- both trees the other way round
pub joined_swapped : {K V E : Type 0} (es : List (K × V)) (a b : Shape K V) (result : Result (Shape K V) E) → IfOk result (IsJoined es a b)
    → IfOk result (IsJoined es b a)
joined_swapped es a b (Err error) h = tt
joined_swapped es a b (Ok t) h = record { pairs = h.pairs; over_a = h.over_b; over_b = h.over_a; low = omega (arith, h.low) }

-- the first work made r nodes, whatever its bound
pub within_real : {compared made more : ℕ} {a b c : Steps} (r all : ℕ) → IsWithin compared made a b → b.made ≤ a.made + r → IsWithin 0 more b c
    → r + more ≤ all → IsWithin compared all a c
within_real r all h real k few = record {
  compared_least = omega (arith, h.compared_least, k.compared_least);
  compared_most = omega (arith, h.compared_most, k.compared_most);
  made_least = omega (arith, h.made_least, k.made_least);
  made_most = omega (arith, real, k.made_most, few);
  only = (within_then h k).only;
}

-- the entry that is first, and what is left without the first one
pub taken_pairs : {K V A : Type 0} (s : Shape K V) (loss : Loss) (left : Shape K V) (e : Rc (Entry K V) A) → IsEndTaken false s loss left
    → slice_get s.entries 0 ≡ Some (pair_of e.value) → s.entries ≡ pair_of e.value ∷ left.entries
taken_pairs s loss left e t first =
    let same : t.end ≡ pair_of e.value = some_same t.end (pair_of e.value) (ap (λ x. slice_get x 0) (sym t.pairs) ∙ first) in
    t.pairs ∙ ap (λ x. x ∷ left.entries) same

-- a tree that was taken apart at its start, and put behind another one
pub joined_ends : {K V E : Type 0} (left taken right : Shape K V) (p : K × V) (result : Result (Shape K V) E) → right.entries ≡ p ∷ taken.entries
    → IfOk result (IsJoined (left.entries ++ p ∷ taken.entries) left taken) → IfOk result (λ t. t.entries ≡ left.entries ++ right.entries)
joined_ends left taken right p (Err error) same joins = tt
joined_ends left taken right p (Ok t) same joins = joins.pairs ∙ ap (λ z. left.entries ++ z) (sym same)

pub none_left : {T : Type 0} (o : Option T) → ((x : T) → o ≢ Some x) → o ≡ None
none_left None h = refl
none_left (Some x) h = absurd (h x refl)

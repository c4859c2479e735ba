use Rattle.rpds_red_black.proofs.Words.{◌≡◌, ◌+◌, Bool, Bound, true, false, [], length, refl, inl, inr, sym, ap, ◌∙◌, arith, filter, bound_map, is_from, Shape, painted, pair_of, shape_of}
use Rattle.rpds_red_black.proofs.Words.{along, cmp_along, near_side, far_side}
use Rattle.rpds_red_black.proofs.Direction.{ascending_along}
use Rattle.rpds_red_black.proofs.Bounds.{IsUpward}
use Rattle.rpds_red_black.proofs.FormBounds.{bound_upward}
use Rattle.rpds_red_black.specs.TreeWalk.{form_along}
use Rattle.rpds_red_black.proofs.PairPositions.{compared_again, inside_count, length_along, length_filter_along, length_of_sides, outside_count}
use Rattle.rpds_red_black.proofs.WalkStack.{along_node, shallower}
use Rattle.rpds_red_black.proofs.tree.Tree.count_outside.Given.{Over}
use Rattle.rpds_red_black.proofs.tree.Tree.count_outside.Goals as goal
use Rattle.rpds_red_black.proofs.tree.Tree.count_outside.Goals.{After-len_within-before}

-- what a walk that starts at the bound gives
given : (g : Over) (back : Bool) (bound : Bound g.row.Q.Denot)
    → IsUpward (cmp_along back g.K.Ord.cmp) (is_from (form_along back g.Q.OrdKey.order g.Q.OrdKey.turned) (bound_map g.Q.OrdKey.seen bound))
given g back bound = bound_upward g.met.K.Ord.total g.Q.OrdKey.seen g.Q.OrdKey.order g.Q.OrdKey.turned g.met.Q.OrdKey.searches g.met.Q.OrdKey.turns back bound

-- the tree that is left to look at, at its root
root : (g : Over) (c : After-len_within-before g) → c.loop-node.tree.now ≡ shape_of (painted c.loop-node.tree.now.color c.in-Some.node.now)
root g c = c.in-Some.ensures

-- how many pairs it has, by its sides
size : (g : Over) (c : After-len_within-before g)
    → c.loop-node.size ≡ c.len_within-before.result + 1 + length (far_side g.D.Direction.back c.in-Some.node.now).entries
size g c = omega (
  arith,
  c.loop-node.invariant.size,
  ap (λ (s : Shape _ _). length s.entries) (root g c),
  length_of_sides g.D.Direction.back c.in-Some.node.now,
  c.len_within-before.ensures,
  ap (λ (s : Shape _ _). length s.entries) c.near-near.ensures,
)

pub loop-node-init : goal.loop-node-init
loop-node-init g c =
    record {
      size = c.requires.size;
      ascending = ascending_along g.K.Ord.cmp g.D.Direction.back c.args.self.now.entries c.requires.ascending;
      outside = omega (arith, c.requires.size);
      bounded = omega arith;
      compared = omega arith;
      least = omega arith;
      some = λ _. inl refl;
      others = refl;
    }

pub loop-node-preserved-then-gives_counted : goal.loop-node-preserved-then-gives_counted
loop-node-preserved-then-gives_counted g c =
    let back = g.D.Direction.back in
    let n = c.in-Some.node in
    let inv = c.loop-node.invariant in
    let step = (goal.at.loop-node-preserved-then-gives_counted g c).After-len_within-before in
    let is = root g step in
    let long = size g step in
    let bound = bound_map g.Q.OrdKey.seen c.args.bound.now in
    let inside : is_from (form_along back g.Q.OrdKey.order g.Q.OrdKey.turned) bound n.now.entry.value.key ≡ true =
    rw c.deref.ensures at (sym c.gives_counted.ensures.gives ∙ c.if-gives_counted.true) in
    let found = inside_count (given g back c.args.bound.now) (along back c.loop-node.tree.now.entries)
    (along back (near_side back n.now).entries) (pair_of n.now.entry.value) (along back (far_side back n.now).entries)
    (ap (λ s. along back s.entries) is ∙ along_node back n.now) inv.ascending inside in
    record {
      size = c.len_within-before.ensures;
      ascending = rw c.near-near.ensures found.0;
      outside = rw c.near-near.ensures (omega (arith, inv.outside, found.1, length_along back (far_side back n.now).entries, long));
      bounded = omega (arith, inv.bounded, long);
      compared = rw c.near-near.ensures (omega (arith, inv.compared, ap (λ s. s.depth) is, (shallower back n.now).near, c.gives_counted.ensures.compared));
      least = omega (arith, inv.least, c.gives_counted.ensures.least);
      some = λ bounded. inr (omega (arith, inv.least, c.gives_counted.ensures.compares bounded));
      others = compared_again c.args.steps.now c.loop-node.steps c.gives_counted.new.steps inv.others c.gives_counted.ensures.others;
    }

pub overflow_add-size : goal.overflow_add-size
overflow_add-size g c = omega (arith, size g (goal.at.overflow_add-size g c).After-len_within-before, c.loop-node.auto.size-fits)

pub overflow_sub-size : goal.overflow_sub-size
overflow_sub-size g c = omega (arith, size g (goal.at.overflow_sub-size g c).After-len_within-before, c.loop-node.auto.size-fits)

pub overflow_add-outside : goal.overflow_add-outside
overflow_add-outside g c = omega (arith, size g (goal.at.overflow_add-outside g c).After-len_within-before, c.loop-node.auto.size-fits)

pub overflow_add-outside-else-gives_counted : goal.overflow_add-outside-else-gives_counted
overflow_add-outside-else-gives_counted g c = omega (arith, size g (goal.at.overflow_add-outside-else-gives_counted g c).After-len_within-before, c.loop-node.invariant.bounded, c.ranges.size.fits)

pub loop-node-preserved : goal.loop-node-preserved
loop-node-preserved g c =
    let back = g.D.Direction.back in
    let n = c.in-Some.node in
    let inv = c.loop-node.invariant in
    let step = (goal.at.loop-node-preserved g c).After-len_within-before in
    let is = root g step in
    let long = size g step in
    let bound = bound_map g.Q.OrdKey.seen c.args.bound.now in
    let outside : is_from (form_along back g.Q.OrdKey.order g.Q.OrdKey.turned) bound n.now.entry.value.key ≡ false =
    rw c.deref.ensures at (sym c.gives_counted.ensures.gives ∙ c.if-gives_counted.false) in
    let found = outside_count (given g back c.args.bound.now) (along back c.loop-node.tree.now.entries)
    (along back (near_side back n.now).entries) (pair_of n.now.entry.value) (along back (far_side back n.now).entries)
    (ap (λ s. along back s.entries) is ∙ along_node back n.now) inv.ascending outside in
    record {
      size = rw c.far-tree.ensures (omega (arith, long));
      ascending = rw c.far-tree.ensures found.0;
      outside = rw c.far-tree.ensures (omega (arith, inv.outside, found.1, long));
      bounded = omega (arith, inv.bounded, long);
      compared = rw c.far-tree.ensures (omega (arith, inv.compared, ap (λ s. s.depth) is, (shallower back n.now).far, c.gives_counted.ensures.compared));
      least = omega (arith, inv.least, c.gives_counted.ensures.least);
      some = λ bounded. inr (omega (arith, inv.least, c.gives_counted.ensures.compares bounded));
      others = compared_again c.args.steps.now c.loop-node.steps c.gives_counted.new.steps inv.others c.gives_counted.ensures.others;
    }

pub returns-clause-outside : goal.returns-clause-outside
returns-clause-outside g c =
    let back = g.D.Direction.back in
    let inv = c.loop-node.invariant in
    let bound = bound_map g.Q.OrdKey.seen c.args.bound.now in
    let none = c.in_default.ensures in
    let left = ap (λ (s : Shape _ _). length (filter (λ p. is_from (form_along back g.Q.OrdKey.order g.Q.OrdKey.turned) bound p.0) (along back s.entries))) none
    ∙ length_filter_along back (λ p. is_from (form_along back g.Q.OrdKey.order g.Q.OrdKey.turned) bound p.0) ([]) in
    let whole = length_filter_along back (λ p. is_from (form_along back g.Q.OrdKey.order g.Q.OrdKey.turned) bound p.0) c.args.self.now.entries in
    omega (arith, inv.outside, inv.size, ap (λ (s : Shape _ _). length s.entries) none, left, whole, c.requires.size)

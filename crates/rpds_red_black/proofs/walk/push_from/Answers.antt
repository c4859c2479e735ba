use Rattle.rpds_red_black.proofs.Words.{◌≡◌, Bound, true, false, ap, sym, ◌∙◌, arith, refl, bound_map, from_top, depth_of, painted, shape_of, pair_of, is_from, along}
use Rattle.rpds_red_black.proofs.Words.{cmp_along, near_side, far_side, given}
use Rattle.rpds_red_black.specs.TreeWalk.{form_along}
use Rattle.rpds_red_black.proofs.Direction.{ascending_along}
use Rattle.rpds_red_black.proofs.Bounds.{IsUpward, sought_inside, sought_outside}
use Rattle.rpds_red_black.proofs.FormBounds.{bound_upward}
use Rattle.rpds_red_black.proofs.WalkStack.{along_node, shallower}
use Rattle.rpds_red_black.proofs.walk.push_from.Given.{Over}
use Rattle.rpds_red_black.proofs.walk.push_from.Goals as goal

-- what a walk that starts at the bound gives
gives : (g : Over) (bound : Bound g.row.Q.Denot)
    → IsUpward (cmp_along g.D.Direction.back g.K.Ord.cmp) (is_from (form_along g.D.Direction.back g.Q.OrdKey.order g.Q.OrdKey.turned) (bound_map g.Q.OrdKey.seen bound))
gives g bound = bound_upward g.met.K.Ord.total g.Q.OrdKey.seen g.Q.OrdKey.order g.Q.OrdKey.turned g.met.Q.OrdKey.searches g.met.Q.OrdKey.turns g.D.Direction.back bound

pub loop-node-init : goal.loop-node-init
loop-node-init g c = record {
  room = c.requires.room;
  fits = c.requires.fits;
  ascending = ascending_along g.K.Ord.cmp g.D.Direction.back c.args.tree.now.entries c.requires.ascending;
  rest = refl;
}

pub loop-node-preserved-then-gives_counted : goal.loop-node-preserved-then-gives_counted
loop-node-preserved-then-gives_counted g c =
    let back = g.D.Direction.back in
    let n = c.in-Some.node in
    let e = pair_of n.now.entry.value in
    let inv = c.loop-node.invariant in
    let is : c.loop-node.tree.now ≡ shape_of (painted c.loop-node.tree.now.color n.now) = c.in-Some.ensures in
    let sides = shallower back n.now in
    let depth : c.loop-node.tree.now.depth ≡ depth_of n.now = ap (λ s. s.depth) is in
    let pairs = ap (λ s. along back s.entries) is ∙ along_node back n.now in
    let bound = bound_map g.Q.OrdKey.seen c.args.bound.now in
    let inside : is_from (form_along back g.Q.OrdKey.order g.Q.OrdKey.turned) bound e.0 ≡ true =
    rw c.deref.ensures at (sym c.gives_counted.ensures.gives ∙ c.if-gives_counted.true) in
    let found = sought_inside (gives g c.args.bound.now) (along back c.loop-node.tree.now.entries) (along back (near_side back n.now).entries) e (along back (far_side back n.now).entries) (from_top (given back) c.loop-node.stack) _ pairs inv.ascending inside inv.rest in
    record {
      room = rw c.push.ensures (omega (arith, inv.fits, depth, sides.far), inv.room);
      fits = rw (c.near-tree.ensures, c.push.ensures) (omega (arith, inv.fits, depth, sides.near));
      ascending = rw c.near-tree.ensures found.0;
      rest = rw (c.near-tree.ensures, c.push.ensures) found.1;
    }

pub loop-node-preserved : goal.loop-node-preserved
loop-node-preserved g c =
    let back = g.D.Direction.back in
    let n = c.in-Some.node in
    let e = pair_of n.now.entry.value in
    let inv = c.loop-node.invariant in
    let is : c.loop-node.tree.now ≡ shape_of (painted c.loop-node.tree.now.color n.now) = c.in-Some.ensures in
    let sides = shallower back n.now in
    let depth : c.loop-node.tree.now.depth ≡ depth_of n.now = ap (λ s. s.depth) is in
    let pairs = ap (λ s. along back s.entries) is ∙ along_node back n.now in
    let bound = bound_map g.Q.OrdKey.seen c.args.bound.now in
    let outside : is_from (form_along back g.Q.OrdKey.order g.Q.OrdKey.turned) bound e.0 ≡ false =
    rw c.deref.ensures at (sym c.gives_counted.ensures.gives ∙ c.if-gives_counted.false) in
    let found = sought_outside (gives g c.args.bound.now) (along back c.loop-node.tree.now.entries) (along back (near_side back n.now).entries) e (along back (far_side back n.now).entries) (from_top (given back) c.loop-node.stack) _ pairs inv.ascending outside inv.rest in
    record {
      room = inv.room;
      fits = rw c.far-tree.ensures (omega (arith, inv.fits, depth, sides.far));
      ascending = rw c.far-tree.ensures found.0;
      rest = rw c.far-tree.ensures found.1;
    }

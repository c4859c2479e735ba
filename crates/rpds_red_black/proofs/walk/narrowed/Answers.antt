use Rattle.rpds_red_black.proofs.Words.{◌≡◌, ◌+◌, Bound, true, false, ap, sym, ◌∙◌, arith, refl, subst, bound_map, max, painted, shape_of, pair_of, IsAscending}
use Rattle.rpds_red_black.proofs.Words.{is_from, is_up_to, cmp_along}
use Rattle.rpds_red_black.specs.TreeWalk.{form_along}
use Rattle.rpds_red_black.proofs.Bounds.{IsUpward}
use Rattle.rpds_red_black.proofs.FormBounds.{end_upward, from_form_end, start_upward}
use Rattle.rpds_red_black.proofs.Narrowing.{within_after, within_before}
use Rattle.rpds_red_black.proofs.Pairs.{around}
use Rattle.rpds_red_black.proofs.walk.narrowed.Given.{Over}
use Rattle.rpds_red_black.proofs.walk.narrowed.Goals as goal

-- the two bounds, as tests
starts : (g : Over) (start : Bound g.row.Q.Denot) → IsUpward g.K.Ord.cmp (is_from g.Q.OrdKey.order (bound_map g.Q.OrdKey.seen start))
starts g start = start_upward g.met.K.Ord.total g.Q.OrdKey.seen g.Q.OrdKey.order g.Q.OrdKey.turned g.met.Q.OrdKey.searches g.met.Q.OrdKey.turns start

ends : (g : Over) (end : Bound g.row.Q.Denot) → IsUpward (cmp_along true g.K.Ord.cmp) (is_up_to g.Q.OrdKey.turned (bound_map g.Q.OrdKey.seen end))
ends g end = end_upward g.met.K.Ord.total g.Q.OrdKey.seen g.Q.OrdKey.order g.Q.OrdKey.turned g.met.Q.OrdKey.searches g.met.Q.OrdKey.turns end

pub loop-node-init : goal.loop-node-init
loop-node-init g c = record { ascending = c.requires; within = refl; shallow = omega arith }

pub loop-node-preserved-then-not-gives_counted : goal.loop-node-preserved-then-not-gives_counted
loop-node-preserved-then-not-gives_counted g c =
    let n = c.in-Some.node in
    let e = pair_of n.now.entry.value in
    let inv = c.loop-node.invariant in
    let is : c.loop-node.tree.now ≡ shape_of (painted c.loop-node.tree.now.color n.now) = c.in-Some.ensures in
    let pairs = ap (λ s. s.entries) is in
    let depth : c.loop-node.tree.now.depth ≡ max n.now.left.depth n.now.right.depth + 1 = ap (λ s. s.depth) is in
    let rising = subst (λ es. IsAscending g.K.Ord.cmp es) pairs inv.ascending in
    let outside : is_from g.Q.OrdKey.order (bound_map g.Q.OrdKey.seen c.args.start.now) e.0 ≡ false =
    rw c.deref.ensures at (sym c.if-not-gives_counted.ensures.gives) in
    record {
      ascending = (around g.K.Ord.cmp n.now.left.entries e n.now.right.entries rising).right;
      within = sym (within_after (starts g c.args.start.now) (ends g c.args.end.now) n.now.left.entries e n.now.right.entries rising outside) ∙ rw (← pairs) inv.within;
      shallow = omega (arith, inv.shallow, depth);
    }

pub loop-node-preserved : goal.loop-node-preserved
loop-node-preserved g c =
    let n = c.in-Some.node in
    let e = pair_of n.now.entry.value in
    let inv = c.loop-node.invariant in
    let is : c.loop-node.tree.now ≡ shape_of (painted c.loop-node.tree.now.color n.now) = c.in-Some.ensures in
    let pairs = ap (λ s. s.entries) is in
    let depth : c.loop-node.tree.now.depth ≡ max n.now.left.depth n.now.right.depth + 1 = ap (λ s. s.depth) is in
    let rising = subst (λ es. IsAscending g.K.Ord.cmp es) pairs inv.ascending in
    let end = bound_map g.Q.OrdKey.seen c.args.end.now in
    let past : is_from (form_along true g.Q.OrdKey.order g.Q.OrdKey.turned) end e.0 ≡ false =
    rw c.deref.ensures at (sym c.if-not-gives_counted-2.ensures.gives) in
    let outside = sym (from_form_end g.Q.OrdKey.order g.Q.OrdKey.turned end e.0) ∙ past in
    record {
      ascending = (around g.K.Ord.cmp n.now.left.entries e n.now.right.entries rising).left;
      within = sym (within_before (starts g c.args.start.now) (ends g c.args.end.now) n.now.left.entries e n.now.right.entries rising outside) ∙ rw (← pairs) inv.within;
      shallow = omega (arith, inv.shallow, depth);
    }

use Rattle.std.proofs.lemmas.List.{append-nil}
use Rattle.rpds_red_black.proofs.Words.{◌≡◌, ◌+◌, true, false, [], refl, inl, inr, sym, ap, ◌∙◌, arith, depth_of, painted, pair_of, shape_of, Bool, is_le, along, cmp_along}
use Rattle.rpds_red_black.proofs.Words.{near_side, far_side}
use Rattle.rpds_red_black.proofs.Counts.{compared_once, counted_once}
use Rattle.rpds_red_black.proofs.Direction.{ascending_along}
use Rattle.rpds_red_black.proofs.FormBounds.{le_upward}
use Rattle.rpds_red_black.proofs.Nearest.{nearest_inside, nearest_outside}
use Rattle.rpds_red_black.proofs.WalkStack.{along_node, shallower}
use Rattle.rpds_red_black.proofs.Bounds.{IsUpward}
use Rattle.rpds_red_black.specs.TreeWalk.{form_along}
use Rattle.rpds_red_black.proofs.tree.Tree.nearest.Given.{Over}
use Rattle.rpds_red_black.proofs.tree.Tree.nearest.Goals as goal

-- what a walk that starts at the form gives
sought : (g : Over) (back : Bool) (form : g.row.Q.Denot) → IsUpward (cmp_along back g.K.Ord.cmp) (λ k. is_le (form_along back g.Q.OrdKey.order g.Q.OrdKey.turned (g.Q.OrdKey.seen form) k))
sought g back form = le_upward g.met.K.Ord.total g.Q.OrdKey.seen g.Q.OrdKey.order g.Q.OrdKey.turned g.met.Q.OrdKey.searches g.met.Q.OrdKey.turns back form

pub loop-node-init : goal.loop-node-init
loop-node-init g c =
    record {
      ascending = ascending_along g.K.Ord.cmp g.D.Direction.back c.args.self.now.entries c.requires;
      passed = record { later = []; first = refl; rest = append-nil _ };
      compared = omega arith;
      least = omega arith;
      some = inl refl;
      others = refl;
    }

pub loop-node-preserved-then-is_le : goal.loop-node-preserved-then-is_le
loop-node-preserved-then-is_le g c =
    let back = g.D.Direction.back in
    let n = c.in-Some.node in
    let e = pair_of n.now.entry.value in
    let inv = c.loop-node.invariant in
    let is : c.loop-node.tree.now ≡ shape_of (painted c.loop-node.tree.now.color n.now) = c.in-Some.ensures in
    let depth : c.loop-node.tree.now.depth ≡ depth_of n.now = ap (λ s. s.depth) is in
    let pairs = ap (λ s. along back s.entries) is ∙ along_node back n.now in
    let raised : c.compare_form.new.steps.compared ≡ c.loop-node.steps.compared + 1 = counted_once c.loop-node.steps c.compare_form.new.steps
    c.compare_form.ensures.compared in
    let inside : is_le (form_along back g.Q.OrdKey.order g.Q.OrdKey.turned (g.Q.OrdKey.seen c.args.key) e.0) ≡ true = rw c.deref-entry.ensures at
    (sym (c.is_le.ensures ∙ ap is_le {y = form_along back g.Q.OrdKey.order g.Q.OrdKey.turned (g.Q.OrdKey.seen c.args.key) c.deref-entry.result.now.key} c.compare_form.ensures.order)
    ∙ c.if-is_le.true) in
    let found = nearest_inside (sought g back c.args.key) (along back (near_side back n.now).entries) e
    (along back (far_side back n.now).entries) pairs inv.ascending inv.passed inside in
    record {
      ascending = rw c.near-tree.ensures found.0;
      passed = rw (c.near-tree.ensures, c.deref-entry.ensures) found.1;
      compared = rw c.near-tree.ensures (omega (arith, inv.compared, depth, (shallower back n.now).near, raised));
      least = omega (arith, inv.least, raised);
      some = inr (omega (arith, inv.least, raised));
      others = compared_once c.args.steps.now c.loop-node.steps c.compare_form.new.steps inv.others c.compare_form.ensures.compared;
    }

pub loop-node-preserved : goal.loop-node-preserved
loop-node-preserved g c =
    let back = g.D.Direction.back in
    let n = c.in-Some.node in
    let e = pair_of n.now.entry.value in
    let inv = c.loop-node.invariant in
    let is : c.loop-node.tree.now ≡ shape_of (painted c.loop-node.tree.now.color n.now) = c.in-Some.ensures in
    let depth : c.loop-node.tree.now.depth ≡ depth_of n.now = ap (λ s. s.depth) is in
    let pairs = ap (λ s. along back s.entries) is ∙ along_node back n.now in
    let raised : c.compare_form.new.steps.compared ≡ c.loop-node.steps.compared + 1 = counted_once c.loop-node.steps c.compare_form.new.steps
    c.compare_form.ensures.compared in
    let outside : is_le (form_along back g.Q.OrdKey.order g.Q.OrdKey.turned (g.Q.OrdKey.seen c.args.key) e.0) ≡ false = rw c.deref-entry.ensures at
    (sym (c.is_le.ensures ∙ ap is_le {y = form_along back g.Q.OrdKey.order g.Q.OrdKey.turned (g.Q.OrdKey.seen c.args.key) c.deref-entry.result.now.key} c.compare_form.ensures.order)
    ∙ c.if-is_le.false) in
    let found = nearest_outside (sought g back c.args.key) (along back (near_side back n.now).entries) e
    (along back (far_side back n.now).entries) pairs inv.ascending inv.passed outside in
    record {
      ascending = rw c.far-tree.ensures found.0;
      passed = rw c.far-tree.ensures found.1;
      compared = rw c.far-tree.ensures (omega (arith, inv.compared, depth, (shallower back n.now).far, raised));
      least = omega (arith, inv.least, raised);
      some = inr (omega (arith, inv.least, raised));
      others = compared_once c.args.steps.now c.loop-node.steps c.compare_form.new.steps inv.others c.compare_form.ensures.compared;
    }

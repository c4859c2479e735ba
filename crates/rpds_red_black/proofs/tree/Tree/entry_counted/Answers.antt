use Rattle.rpds_red_black.proofs.Words.{◌≡◌, ◌+◌, max, ap, refl, inl, inr, arith, Less, Equal, Greater}
use Rattle.rpds_red_black.proofs.Node.{seen}
use Rattle.rpds_red_black.proofs.Counts.{compared_once}
use Rattle.rpds_red_black.proofs.Look.{look_less, look_equal, look_greater, tied_of, below_of, above_of}
use Rattle.rpds_red_black.proofs.tree.Tree.entry_counted.Goals as goal

pub loop-tree-init : goal.loop-tree-init
loop-tree-init g c = record {
  left = record { ascending = c.requires; same = refl };
  compared = omega arith;
  least = omega arith;
  some = inl refl;
  others = refl;
}

pub returns-then-is_eq : goal.returns-then-is_eq
returns-then-is_eq g c =
    let n = c.in-Branch.node.value in
    let is = seen c.tree.view_is c.in-Branch.is in
    let tied : g.Q.OrdKey.order (g.Q.OrdKey.seen c.args.key) n.entry.value.key ≡ Equal = tied_of _ cc in
    let found = look_equal g.met.K.Ord.total (g.met.Q.OrdKey.searches c.args.key) _ _ _ _ _ (ap (λ s. s.entries) is) c.loop-tree.invariant.left tied in
    let depth : c.loop-tree.tree.now.depth ≡ max n.left.depth n.right.depth + 1 = ap (λ s. s.depth) is in
    let raised = ap (λ s. s.compared) c.compare_form-order.ensures.compared in
    let bound = c.loop-tree.invariant.compared in
    let least = c.loop-tree.invariant.least in
    record {
      found = rw c.deref-node.ensures found;
      compared = omega arith;
      least = omega arith;
      compares = λ _. omega arith;
      others = compared_once
          c.args.steps.now c.loop-tree.steps c.compare_form-order.new.self c.loop-tree.invariant.others c.compare_form-order.ensures.compared;
    }

pub loop-tree-preserved-then-is_lt : goal.loop-tree-preserved-then-is_lt
loop-tree-preserved-then-is_lt g c =
    let n = c.in-Branch.node.value in
    let is = seen c.tree.view_is c.in-Branch.is in
    let below : g.Q.OrdKey.order (g.Q.OrdKey.seen c.args.key) n.entry.value.key ≡ Less = below_of _ cc in
    let left = look_less g.met.K.Ord.total (g.met.Q.OrdKey.searches c.args.key) _ _ _ _ _ (ap (λ s. s.entries) is) c.loop-tree.invariant.left below in
    let depth : c.loop-tree.tree.now.depth ≡ max n.left.depth n.right.depth + 1 = ap (λ s. s.depth) is in
    let raised = ap (λ s. s.compared) c.compare_form-order.ensures.compared in
    let bound = c.loop-tree.invariant.compared in
    let least = c.loop-tree.invariant.least in
    rw c.deref-node.ensures record {
      left = left;
      compared = omega arith;
      least = omega arith;
      some = inr (omega arith);
      others = compared_once
          c.args.steps.now c.loop-tree.steps c.compare_form-order.new.self c.loop-tree.invariant.others c.compare_form-order.ensures.compared;
    }

pub loop-tree-preserved : goal.loop-tree-preserved
loop-tree-preserved g c =
    let n = c.in-Branch.node.value in
    let is = seen c.tree.view_is c.in-Branch.is in
    let above : g.Q.OrdKey.order (g.Q.OrdKey.seen c.args.key) n.entry.value.key ≡ Greater = above_of _ (cc) (cc) in
    let left = look_greater g.met.K.Ord.total (g.met.Q.OrdKey.searches c.args.key) _ _ _ _ _ (ap (λ s. s.entries) is) c.loop-tree.invariant.left above in
    let depth : c.loop-tree.tree.now.depth ≡ max n.left.depth n.right.depth + 1 = ap (λ s. s.depth) is in
    let raised = ap (λ s. s.compared) c.compare_form-order.ensures.compared in
    let bound = c.loop-tree.invariant.compared in
    let least = c.loop-tree.invariant.least in
    rw c.deref-node.ensures record {
      left = left;
      compared = omega arith;
      least = omega arith;
      some = inr (omega arith);
      others = compared_once
          c.args.steps.now c.loop-tree.steps c.compare_form-order.new.self c.loop-tree.invariant.others c.compare_form-order.ensures.compared;
    }

use Rattle.rpds_red_black.proofs.Words.{◌≡◌, ◌≤◌, bound_map, IsAscending}
use Rattle.rpds_red_black.specs.Ranges.{within_forms}
use Rattle.rpds_red_black.proofs.walk.narrowed.Given as goal

abbrev pub invariant-loop-node : goal.invariant-loop-node
invariant-loop-node g l = record {
  ascending : IsAscending g.K.Ord.cmp l.tree.entries;
  within : within_forms g.Q.OrdKey.order g.Q.OrdKey.turned (bound_map g.Q.OrdKey.seen l.fn.start) (bound_map g.Q.OrdKey.seen l.fn.end) l.tree.entries
      ≡ within_forms g.Q.OrdKey.order g.Q.OrdKey.turned (bound_map g.Q.OrdKey.seen l.fn.start) (bound_map g.Q.OrdKey.seen l.fn.end) l.fn.tree.entries;
  shallow : l.tree.depth ≤ l.fn.tree.depth;
}

abbrev pub decreases-loop-node : goal.decreases-loop-node
decreases-loop-node g l = l.tree.depth

use Rattle.rpds_red_black.proofs.Words.{◌≡◌, ◌+◌, ◌<◌, ◌≤◌, ◌⊎◌, find_by}
use Rattle.rpds_red_black.proofs.Look.{IsLeft}
use Rattle.rpds_red_black.proofs.tree.Tree.entry_counted.Given as goal

abbrev pub invariant-loop-tree : goal.invariant-loop-tree
invariant-loop-tree g l = record {
  left : IsLeft g.K.Ord.cmp (g.Q.OrdKey.order (g.Q.OrdKey.seen l.key)) l.tree.entries (find_by (g.Q.OrdKey.order (g.Q.OrdKey.seen l.key)) l.self.entries);
  compared : l.steps.compared + l.tree.depth ≤ l.initial.steps.compared + l.self.depth;
  least : l.initial.steps.compared ≤ l.steps.compared;
  some : (l.tree ≡ l.self) ⊎ (l.initial.steps.compared < l.steps.compared);
  others : l.steps ≡ record l.initial.steps { compared = l.steps.compared };
}

abbrev pub decreases-loop-tree : goal.decreases-loop-tree
decreases-loop-tree g l = l.tree.depth

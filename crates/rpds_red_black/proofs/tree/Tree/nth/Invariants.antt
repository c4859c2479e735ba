use Rattle.rpds_red_black.proofs.Words.{◌≡◌, ◌+◌, ◌<◌, ◌≤◌, ◌⊎◌, length, slice_get}
use Rattle.rpds_red_black.proofs.tree.Tree.nth.Given as goal

abbrev pub invariant-loop-tree : goal.invariant-loop-tree
invariant-loop-tree g l = record {
  size : l.size ≡ length l.tree.entries;
  at : slice_get l.tree.entries l.position ≡ slice_get l.self.entries l.initial.position;
  visited : l.steps.visited + l.tree.depth ≤ l.initial.steps.visited + l.self.depth;
  least : l.initial.steps.visited ≤ l.steps.visited;
  some : (l.tree ≡ l.self) ⊎ (l.initial.steps.visited < l.steps.visited);
  others : l.steps ≡ record l.initial.steps { visited = l.steps.visited };
}

abbrev pub decreases-loop-tree : goal.decreases-loop-tree
decreases-loop-tree g l = l.tree.depth

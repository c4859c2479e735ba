use Rattle.rpds_red_black.proofs.Words.{◌≡◌, ◌≢◌, ◌+◌, ◌<◌, ◌≤◌, ◌⊎◌, Unbounded, length, filter, bound_map, IsAscending, is_from, along, cmp_along}
use Rattle.rpds_red_black.specs.TreeWalk.{form_along}
use Rattle.rpds_red_black.proofs.tree.Tree.count_outside.Given as goal

abbrev pub invariant-loop-node : goal.invariant-loop-node
invariant-loop-node g l = record {
  size : l.size ≡ length l.tree.entries;
  ascending : IsAscending (cmp_along g.D.Direction.back g.K.Ord.cmp) (along g.D.Direction.back l.tree.entries);
  outside : l.outside + l.size + length (filter (λ p. is_from (form_along g.D.Direction.back g.Q.OrdKey.order g.Q.OrdKey.turned) (bound_map g.Q.OrdKey.seen l.fn.bound) p.0)
      (along g.D.Direction.back l.fn.self.entries)) ≡ length l.fn.self.entries + length (filter (λ p. is_from (form_along g.D.Direction.back g.Q.OrdKey.order g.Q.OrdKey.turned)
      (bound_map g.Q.OrdKey.seen l.fn.bound) p.0) (along g.D.Direction.back l.tree.entries));
  bounded : l.outside + l.size ≤ l.fn.size;
  compared : l.steps.compared + l.tree.depth ≤ l.initial.steps.compared + l.fn.self.depth;
  least : l.initial.steps.compared ≤ l.steps.compared;
  some : bound_map g.Q.OrdKey.seen l.fn.bound ≢ Unbounded → (l.tree ≡ l.fn.self) ⊎ (l.initial.steps.compared < l.steps.compared);
  others : l.steps ≡ record l.initial.steps { compared = l.steps.compared };
}

abbrev pub decreases-loop-node : goal.decreases-loop-node
decreases-loop-node g l = l.tree.depth

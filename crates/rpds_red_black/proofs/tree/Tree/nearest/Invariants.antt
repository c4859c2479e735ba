use Rattle.rpds_red_black.proofs.Words.{◌≡◌, ◌+◌, ◌<◌, ◌≤◌, ◌⊎◌, filter, deref_pair, option_map, is_le, IsAscending, along, cmp_along}
use Rattle.rpds_red_black.specs.TreeWalk.{form_along}
use Rattle.rpds_red_black.proofs.Nearest.{IsNearest}
use Rattle.rpds_red_black.proofs.tree.Tree.nearest.Given as goal

abbrev pub invariant-loop-node : goal.invariant-loop-node
invariant-loop-node g l = record {
  ascending : IsAscending (cmp_along g.D.Direction.back g.K.Ord.cmp) (along g.D.Direction.back l.tree.entries);
  passed : IsNearest (option_map deref_pair l.nearest) (filter (λ p. is_le (form_along g.D.Direction.back g.Q.OrdKey.order g.Q.OrdKey.turned (g.Q.OrdKey.seen l.fn.key) p.0))
      (along g.D.Direction.back l.tree.entries)) (filter (λ p. is_le (form_along g.D.Direction.back g.Q.OrdKey.order g.Q.OrdKey.turned (g.Q.OrdKey.seen l.fn.key) p.0))
      (along g.D.Direction.back l.fn.self.entries));
  compared : l.steps.compared + l.tree.depth ≤ l.initial.steps.compared + l.fn.self.depth;
  least : l.initial.steps.compared ≤ l.steps.compared;
  some : (l.tree ≡ l.fn.self) ⊎ (l.initial.steps.compared < l.steps.compared);
  others : l.steps ≡ record l.initial.steps { compared = l.steps.compared };
}

abbrev pub decreases-loop-node : goal.decreases-loop-node
decreases-loop-node g l = l.tree.depth

use Rattle.rpds_red_black.proofs.Words.{◌≡◌, ◌+◌, ◌≤◌, ◌++◌, length, filter, bound_map, from_top, HasRoom, IsAscending, is_from, along, cmp_along, given, Fits}
use Rattle.rpds_red_black.specs.TreeWalk.{form_along}
use Rattle.rpds_red_black.proofs.walk.push_from.Given as goal

abbrev pub invariant-loop-node : goal.invariant-loop-node
invariant-loop-node g l = record {
  room : HasRoom (Fits g.D.Direction.back) l.stack;
  fits : length l.stack + l.tree.depth ≤ 128;
  ascending : IsAscending (cmp_along g.D.Direction.back g.K.Ord.cmp) (along g.D.Direction.back l.tree.entries);
  rest : filter (λ p. is_from (form_along g.D.Direction.back g.Q.OrdKey.order g.Q.OrdKey.turned) (bound_map g.Q.OrdKey.seen l.fn.bound) p.0) (along g.D.Direction.back l.tree.entries) ++ from_top (given g.D.Direction.back) l.stack ≡ filter (λ p. is_from (form_along g.D.Direction.back g.Q.OrdKey.order g.Q.OrdKey.turned) (bound_map g.Q.OrdKey.seen l.fn.bound) p.0) (along g.D.Direction.back l.fn.tree.entries) ++ from_top (given g.D.Direction.back) l.initial.stack;
}

abbrev pub decreases-loop-node : goal.decreases-loop-node
decreases-loop-node g l = l.tree.depth

use Rattle.rpds_tree.proofs.Words.{◌∙◌}
use Rattle.rpds_red_black.proofs.PairPositions.{rank_is}
use Rattle.rpds_tree.proofs.map.red_black_tree_map.RedBlackTreeMap.rank_counted.Goals as goal

pub returns-clause-rank : goal.returns-clause-rank
returns-clause-rank g c = rw (← c.self.view_is) (rank_is g.Q.OrdKey.order g.Q.OrdKey.turned (g.Q.OrdKey.seen c.args.key) (g.met.Q.OrdKey.turns c.args.key)
    c.self.inside.tree.entries c.count_outside.result (c.count_outside.ensures.outside ∙ c.self.invariant.1))

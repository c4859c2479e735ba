use Rattle.rpds_tree.proofs.Words.{◌∙◌}
use Rattle.rpds_red_black.proofs.Nearest.{floor_is}
use Rattle.rpds_tree.proofs.map.red_black_tree_map.RedBlackTreeMap.floor_counted.Goals as goal

pub returns-clause-last : goal.returns-clause-last
returns-clause-last g c = rw (← c.self.view_is) (c.nearest.ensures.first ∙ floor_is g.Q.OrdKey.order g.Q.OrdKey.turned (g.Q.OrdKey.seen c.args.key) c.self.inside.tree.entries)

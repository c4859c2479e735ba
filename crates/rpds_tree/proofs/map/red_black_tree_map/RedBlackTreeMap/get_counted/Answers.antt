use Rattle.rpds_tree.proofs.map.red_black_tree_map.RedBlackTreeMap.get_counted.Goals as goal

pub returns-clause-compared : goal.returns-clause-compared
returns-clause-compared g c = rw (← c.self.view_is) c.get_counted.ensures.compared

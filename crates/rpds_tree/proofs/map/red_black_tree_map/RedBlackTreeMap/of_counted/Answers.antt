use Rattle.rpds_tree.proofs.map.red_black_tree_map.RedBlackTreeMap.of_counted.Goals as goal

pub of_tree-requires-clause-size : goal.of_tree-requires-clause-size
of_tree-requires-clause-size g c = c.len_within-size.ensures

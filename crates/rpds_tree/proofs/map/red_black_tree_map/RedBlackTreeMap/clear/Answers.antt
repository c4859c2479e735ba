use Rattle.rpds_tree.proofs.map.red_black_tree_map.RedBlackTreeMap.clear.Goals as goal

pub invariant_of-self : goal.invariant_of-self
invariant_of-self g c = c.new-2.invariant

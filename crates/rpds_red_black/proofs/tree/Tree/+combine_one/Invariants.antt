use Rattle.rpds_red_black.proofs.tree.Tree.+combine_one.Given as goal

abbrev pub decreases-combine_one : goal.decreases-combine_one
decreases-combine_one g l = l.self.now.depth

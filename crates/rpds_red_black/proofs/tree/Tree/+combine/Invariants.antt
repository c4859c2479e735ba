use Rattle.rpds_red_black.proofs.tree.Tree.+combine.Given as goal

abbrev pub decreases-combine : goal.decreases-combine
decreases-combine g l = l.self.now.depth

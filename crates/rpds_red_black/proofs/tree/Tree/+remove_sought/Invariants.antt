use Rattle.rpds_red_black.proofs.tree.Tree.+remove_sought.Given as goal

abbrev pub decreases-remove_sought : goal.decreases-remove_sought
decreases-remove_sought g l = l.self.now.depth

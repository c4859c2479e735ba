use Rattle.rpds_red_black.proofs.tree.Tree.+remove_end.Given as goal

abbrev pub decreases-remove_end : goal.decreases-remove_end
decreases-remove_end g l = l.self.now.depth

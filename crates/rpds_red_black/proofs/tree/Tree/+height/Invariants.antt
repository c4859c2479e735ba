use Rattle.rpds_red_black.proofs.tree.Tree.+height.Given as goal

abbrev pub decreases-height : goal.decreases-height
decreases-height g l = l.self.now.depth

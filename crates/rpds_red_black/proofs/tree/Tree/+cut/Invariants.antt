use Rattle.rpds_red_black.proofs.tree.Tree.+cut.Given as goal

abbrev pub decreases-cut : goal.decreases-cut
decreases-cut g l = l.self.now.depth

use Rattle.rpds_red_black.proofs.tree.Tree.+sift.Given as goal

abbrev pub decreases-sift : goal.decreases-sift
decreases-sift g l = l.self.now.depth

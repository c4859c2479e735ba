use Rattle.rpds_red_black.proofs.tree.Tree.+lend_into.Given as goal

abbrev pub decreases-lend_into : goal.decreases-lend_into
decreases-lend_into g l = l.self.now.depth

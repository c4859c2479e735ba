use Rattle.rpds_red_black.proofs.tree.Tree.+build.Given as goal

abbrev pub decreases-build : goal.decreases-build
decreases-build g l = l.height

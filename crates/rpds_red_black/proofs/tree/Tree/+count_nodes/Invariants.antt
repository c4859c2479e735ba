use Rattle.rpds_red_black.proofs.tree.Tree.+count_nodes.Given as goal

abbrev pub decreases-count_nodes : goal.decreases-count_nodes
decreases-count_nodes g l = l.self.now.depth

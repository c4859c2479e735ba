use Rattle.rpds_red_black.proofs.Words.{◌+◌, ◌*◌, max}
use Rattle.rpds_red_black.proofs.tree.+choose.Given as goal

abbrev pub decreases-Tree::choose_into : goal.decreases-Tree::choose_into
decreases-Tree::choose_into g l = 2 * l.self.now.depth

abbrev pub decreases-Node::choose_into : goal.decreases-Node::choose_into
decreases-Node::choose_into g l = 2 * max l.self.now.left.depth l.self.now.right.depth + 1

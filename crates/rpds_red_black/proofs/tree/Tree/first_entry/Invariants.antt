use Rattle.rpds_red_black.proofs.Words.{◌≡◌, slice_get, depth_of, pairs_of}
use Rattle.rpds_red_black.proofs.tree.Tree.first_entry.Given as goal

abbrev pub invariant-loop-node : goal.invariant-loop-node
invariant-loop-node g l = slice_get (pairs_of l.node) 0 ≡ slice_get l.self.entries 0

abbrev pub decreases-loop-node : goal.decreases-loop-node
decreases-loop-node g l = depth_of l.node

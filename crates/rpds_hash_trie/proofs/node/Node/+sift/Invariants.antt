use Rattle.rpds_hash_trie.proofs.Words.{seen}
use Rattle.rpds_hash_trie.proofs.SiftedChildren.{IsSifting}
use Rattle.rpds_hash_trie.proofs.node.Node.+sift.Given as goal

abbrev pub decreases-sift : goal.decreases-sift
decreases-sift g l = goal.size-sift g l

abbrev pub invariant-loop-place : goal.invariant-loop-place
invariant-loop-place g l = IsSifting g.K.PartialEq.eq l.both l.bits l.depth l.place (seen l.mine) l.fn.other.entries l.kept l.fn.common l.common

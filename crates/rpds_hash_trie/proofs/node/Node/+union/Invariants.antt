use Rattle.std.proofs.Common.{ℕ, drop}
use Rattle.rpds_hash_trie.proofs.Words.{seen, behind}
use Rattle.rpds_hash_trie.specs.HashUnion.{children_or}
use Rattle.rpds_hash_trie.proofs.UnitedChildren.{IsUniting}
use Rattle.rpds_hash_trie.proofs.node.Node.+union.Given as goal

abbrev pub decreases-union : goal.decreases-union
decreases-union g l = goal.size-union g l

abbrev pub invariant-loop-child : goal.invariant-loop-child
invariant-loop-child g l = (root : ℕ) × IsUniting g.K.PartialEq.eq l.bits l.depth root (seen l.mine) l.fn.other.entries
    (children_or (seen l.mine) l.changed) (behind (drop l.child-index l.row)) l.fn.common l.common

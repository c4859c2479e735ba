use Rattle.rpds_hash.proofs.Words.{◌≡◌, is_disjoint}
use Rattle.rpds_hash.proofs.set.hash_trie_set.HashTrieSet.is_disjoint.Given as goal

-- what is left decides
abbrev pub invariant-loop-member : goal.invariant-loop-member
invariant-loop-member g l = is_disjoint g.T.PartialEq.eq l.self.members l.other.members ≡ is_disjoint g.T.PartialEq.eq l.member-iterator l.other.members

use Rattle.std.proofs.Common.{◌≡◌, length}
use Rattle.rpds_hash.specs.HashDifferences.{added}
use Rattle.rpds_hash.proofs.map.hash_trie_map.diff.next_added.Given as goal

-- what is left decides
abbrev pub invariant-loop-key : goal.invariant-loop-key
invariant-loop-key g l = added g.K.PartialEq.eq l.old.entries l.initial.pairs ≡ added g.K.PartialEq.eq l.old.entries l.pairs

abbrev pub decreases-loop-key : goal.decreases-loop-key
decreases-loop-key g l = length l.pairs

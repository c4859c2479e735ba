use Rattle.std.proofs.Common.{◌≡◌, length}
use Rattle.rpds_hash.specs.HashDifferences.{changed}
use Rattle.rpds_hash.proofs.map.hash_trie_map.diff.next_changed.Given as goal

-- what is left decides
abbrev pub invariant-loop-key : goal.invariant-loop-key
invariant-loop-key g l = changed g.K.PartialEq.eq g.V.PartialEq.eq l.new.entries l.initial.pairs ≡ changed g.K.PartialEq.eq g.V.PartialEq.eq l.new.entries l.pairs

abbrev pub decreases-loop-key : goal.decreases-loop-key
decreases-loop-key g l = length l.pairs

use Rattle.std.proofs.Common.{◌≡◌}
use Rattle.rpds_core.specs.Calls.{CalledAtEntry}
use Rattle.rpds_hash.proofs.Kept.{Keeping}
use Rattle.rpds_hash.proofs.map.hash_trie_map.HashTrieMap.retain.Given as goal

abbrev pub invariant-loop-key : goal.invariant-loop-key
invariant-loop-key g l =
    goal.F-IsAlwaysCallable g l.keep
    × (l.left ≡ record l.fn.self { entries = l.left.entries })
    × Keeping (CalledAtEntry g.F.FnMut) l.fn.keep l.fn.self.entries l.keep l.left.entries l.key-iterator

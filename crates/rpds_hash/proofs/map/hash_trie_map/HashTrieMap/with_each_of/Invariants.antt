use Rattle.std.proofs.Common.{◌≡◌}
use Rattle.std.specs.List.{IsDistinct}
use Rattle.std.specs.Map.{keys_of}
use Rattle.rpds_hash_trie.specs.HashedMap.{find}
use Rattle.rpds_hash.proofs.Unions.{IsEitherSoFar}
use Rattle.rpds_hash.proofs.map.hash_trie_map.HashTrieMap.with_each_of.Given as goal

-- a key that is left has what it has in ours, and those that were gone over have the pair of either
abbrev pub invariant-loop-key : goal.invariant-loop-key
invariant-loop-key g l =
    let eq = g.K.PartialEq.eq in
    record {
      distinct : IsDistinct eq (keys_of l.key-iterator);
      found : (k : g.row.K.Denot) → IsEitherSoFar eq l.self.entries l.other.entries l.key-iterator k (find eq k l.both.entries);
      same : l.both ≡ record l.self { entries = l.both.entries };
    }

use Rattle.std.proofs.Common.{◌≡◌}
use Rattle.std.specs.List.{IsDistinct}
use Rattle.std.specs.Map.{keys_of}
use Rattle.rpds_hash_trie.specs.HashedMap.{find}
use Rattle.rpds_hash.proofs.UnitedWith.{IsUnitedSoFar}
use Rattle.rpds_hash.proofs.map.hash_trie_map.HashTrieMap.union_with.Given as goal

-- a key that is left has the pair of either map, and those that were gone over are combined
abbrev pub invariant-loop-key : goal.invariant-loop-key
invariant-loop-key g l =
    let eq = g.K.PartialEq.eq in
    record {
      distinct : IsDistinct eq (keys_of l.key-iterator);
      callable : goal.F-IsAlwaysCallable g l.combine;
      pairs : (k : g.row.K.Denot) → IsUnitedSoFar g.met.K.Eq.laws g.F.Fn l.combine l.self.entries l.other.entries l.key-iterator k (find eq k l.map.entries);
      same : l.map ≡ record l.self { entries = l.map.entries };
    }

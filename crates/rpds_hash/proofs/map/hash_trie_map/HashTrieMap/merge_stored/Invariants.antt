use Rattle.std.proofs.Common.{◌≡◌, is_some, true}
use Rattle.std.specs.List.{IsDistinct}
use Rattle.std.specs.Map.{keys_of}
use Rattle.rpds_hash_trie.specs.HashedMap.{find}
use Rattle.rpds_hash.proofs.MergeSteps.{IsMergedSoFar}
use Rattle.rpds_hash.proofs.map.hash_trie_map.HashTrieMap.merge_stored.Given as goal

-- a key that is left has ours, and those that were gone over are merged
abbrev pub invariant-loop-key : goal.invariant-loop-key
invariant-loop-key g l =
    let eq = g.K.PartialEq.eq in
    let base = l.base.entries in
    record {
      distinct : IsDistinct eq (keys_of l.key-iterator);
      inside : (k : g.row.K.Denot) → is_some (find eq k l.key-iterator) ≡ true → is_some (find eq k base) ≡ true;
      callable : goal.F-IsAlwaysCallable g l.resolve;
      merged : (k : g.row.K.Denot) → IsMergedSoFar eq g.V.PartialEq.eq base l.fn.self.entries l.theirs.entries g.F.Fn l.resolve
          (λ j. is_some (find eq j base)) l.key-iterator k (find eq k l.self.entries);
      same : l.self ≡ record l.fn.self { entries = l.self.entries };
    }

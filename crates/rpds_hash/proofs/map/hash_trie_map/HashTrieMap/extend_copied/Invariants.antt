use Rattle.std.proofs.Common.{◌≡◌, ◌++◌, map, reverse}
use Rattle.std.specs.Map.Iter.{deref_pair}
use Rattle.rpds_hash_trie.specs.HashedMap.{find}
use Rattle.rpds_hash.proofs.map.hash_trie_map.HashTrieMap.extend_copied.Given as goal

abbrev pub invariant-loop-key : goal.invariant-loop-key
invariant-loop-key g l =
    (goal.iterator-loop-key g).can_next l.key-iterator
    × (goal.iterator-loop-key g).is_finite l.key-iterator
    × ((k : _) → find g.K.PartialEq.eq k l.longer.entries ≡ find g.K.PartialEq.eq k (reverse (map deref_pair l.yielded) ++ l.self.entries))
    × (l.longer ≡ record l.self { entries = l.longer.entries })

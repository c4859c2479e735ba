use Rattle.rpds_hash.proofs.Words.{◌≡◌, AreCollected}
use Rattle.rpds_hash.proofs.map.hash_trie_map.HashTrieMap.from_iter.Given as goal

abbrev pub invariant-loop-key : goal.invariant-loop-key
invariant-loop-key g l =
    (goal.iterator-loop-key g).can_next l.key-iterator ×
    (goal.iterator-loop-key g).is_finite l.key-iterator ×
    AreCollected g.K.PartialEq.eq l.yielded l.map.entries ×
    (l.map.degree ≡ 64) ×
    g.H.Default.is_default l.map.hasher

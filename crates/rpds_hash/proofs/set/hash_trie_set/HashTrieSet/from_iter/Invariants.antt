use Rattle.rpds_hash.proofs.Words.{◌≡◌, map, AreCollected}
use Rattle.rpds_hash.proofs.Members.{to_unit}
use Rattle.rpds_hash.proofs.set.hash_trie_set.HashTrieSet.from_iter.Given as goal

abbrev pub invariant-loop-item : goal.invariant-loop-item
invariant-loop-item g l =
    (goal.iterator-loop-item g).can_next l.item-iterator ×
    (goal.iterator-loop-item g).is_finite l.item-iterator ×
    AreCollected g.T.PartialEq.eq (map to_unit l.yielded) l.map.entries ×
    (l.map.degree ≡ 64) ×
    g.H.Default.is_default l.map.hasher

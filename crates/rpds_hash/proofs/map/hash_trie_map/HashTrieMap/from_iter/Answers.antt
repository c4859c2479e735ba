use Rattle.std.proofs.Common.{rules}
use Rattle.rpds_hash_trie.proofs.FromIter.{collected_last}
use Rattle.rpds_hash.proofs.map.hash_trie_map.HashTrieMap.from_iter.Goals as goal

-- (no part names the insertion, so that an insertion which isn't made is refused here)
pub loop-key-preserved : goal.loop-key-preserved
loop-key-preserved g c =
    let inv = c.loop-key.invariant in
    let next = c.in-Some.ensures.goes.on inv.1 in (
      next.0,
      next.1,
      search (rules, collected_last g.K.PartialEq.eq g.met.K.Eq.laws c.loop-key.yielded (c.in-Some.key, c.in-Some.value) c.loop-key.map.entries, inv.2, c.prove_sound.ensures.distinct),
      search (rules, inv.3),
      search (rules, inv.4),
    )

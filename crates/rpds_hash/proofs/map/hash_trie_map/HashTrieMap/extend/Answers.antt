use Rattle.std.proofs.Common.{true, refl}
use Rattle.std.specs.Iterator.{Drains}
use Rattle.std.proofs.iter.runs.Made.{run, to_end}
use Rattle.rpds_hash.proofs.map.hash_trie_map.HashTrieMap.extend.Goals as goal

pub returns-clause-found : goal.returns-clause-found
returns-clause-found g c =
    let gives = g.I.IntoIter.Iterator.next_gives in
    let start = c.into_iter-pairs.result in
    let yielded = c.loop-key.yielded in
    let more = rw c.into_iter-key-iterator.ensures.into_iter_gives at c.loop-key.yielded_by in
    let drains : Drains gives start yielded = (c.next.new.self, (c.loop-key.key-iterator, more, c.in-None.ensures.steps)) in (
      start,
      c.into_iter-pairs.ensures.into_iter_gives,
      (run gives start yielded true (to_end gives start yielded drains), refl, refl, c.loop-key.invariant.2),
    )

use Rattle.std.proofs.Common.{true, refl}
use Rattle.std.specs.Iterator.{Drains}
use Rattle.std.proofs.iter.runs.Made.{run, to_end}
use Rattle.rpds_hash.proofs.set.hash_trie_set.HashTrieSet.extend.Goals as goal

pub returns-clause-found : goal.returns-clause-found
returns-clause-found g c =
    let gives = g.I.IntoIter.Iterator.next_gives in
    let start = c.into_iter-values.result in
    let yielded = c.loop-value.yielded in
    let more = rw c.into_iter-value-iterator.ensures.into_iter_gives at c.loop-value.yielded_by in
    let drains : Drains gives start yielded = (c.next.new.self, (c.loop-value.value-iterator, more, c.in-None.ensures.steps)) in (
      start,
      c.into_iter-values.ensures.into_iter_gives,
      (run gives start yielded true (to_end gives start yielded drains), refl, refl, c.loop-value.invariant.2),
    )

use Rattle.rpds_hash_trie.proofs.Words.{arith, map, refl, stored, IfOk-weaker}
use Rattle.rpds_hash_trie.specs.HashValues.{HasStoredValueOf}
use Rattle.rpds_hash_trie.proofs.Mapped.{colliding_kept, zip_more, zip_whole}
use Rattle.rpds_hash_trie.proofs.map_values.map_collision.Goals as goal

pub loop-entry-preserved : goal.loop-entry-preserved
loop-entry-preserved g c =
    let inv = c.loop-entry.invariant in
    let pushed = c.push_reserved.ensures in (
      rw pushed.items (zip_more (HasStoredValueOf g.F.Fn c.args.change.now) stored stored c.as_slice-entries.result.now c.loop-entry.others.items c.loop-entry.entry-index c.entry-item.result
          c.in_ok-mapped.mapped (omega (arith, c.loop-entry-test.true)) c.entry-item.is inv.0 c.in_ok-mapped.ensures),
      omega (arith, pushed.len, inv.1),
      omega (arith, pushed.capacity, inv.2),
    )

pub collision-requires : goal.collision-requires
collision-requires g c =
    let mine = c.args.collision.now in
    let others = c.loop-entry.others.items in
    let made = zip_whole (HasStoredValueOf g.F.Fn c.args.change.now) stored stored c.as_slice-entries.result.now mine.others.items others c.loop-entry.entry-index
    (omega (arith, c.loop-entry-test.false)) c.as_slice-entries.ensures.value c.loop-entry.invariant.0 in
    colliding_kept g.F.Fn c.args.change.now c.args.bits c.args.depth (stored mine.front) (map stored mine.others.items) c.in_ok-front.front (map stored others) c.in_ok-front.ensures
    made c.requires.sound

pub returns : goal.returns
returns g c =
    let mine = c.args.collision.now in
    let others = c.loop-entry.others.items in
    let made = zip_whole (HasStoredValueOf g.F.Fn c.args.change.now) stored stored c.as_slice-entries.result.now mine.others.items others c.loop-entry.entry-index
    (omega (arith, c.loop-entry-test.false)) c.as_slice-entries.ensures.value c.loop-entry.invariant.0 in
    IfOk-weaker c.collision.result _ _ (λ n is. rw is (record { same_bits = refl; same_depth = refl; entries = (c.in_ok-front.ensures, made) }))
    c.collision.ensures.ok

use Rattle.std.proofs.Common.{rules, Some, None, refl, ap, subst}
use Rattle.std.proofs.lemmas.Result.{on_ok_weaker}
use Rattle.serde.specs.Event.{Logs, seq_begins, WritesEach}
use Rattle.serde.proofs.Events.{WritesUpTo-start, WritesUpTo-more, WritesUpTo-all}
use Rattle.rpds_serde.proofs.write.write_sequence.Goals as goal

pub loop-item-init : goal.loop-item-init
loop-item-init g c = (search rules, search rules, λ rest shows. WritesUpTo-start g.T.Described.writes _ _ _ refl)

pub loop-item-preserved : goal.loop-item-preserved
loop-item-preserved g c = (
  search rules,
  search rules,
  λ rest shows. WritesUpTo-more g.T.Described.writes _ _ _ c.in-Some.item.now _ _ _ (c.loop-item.invariant.2 rest shows)
      (shows c.loop-item.item-iterator (Some c.in-Some.item) c.next.new.self c.in-Some.ensures.steps) c.in_ok-serialize.ensures,
)

pub returns : goal.returns
returns g c = λ rest shows len.
    let written = g.S.Serializer.written in
    let begun = subst (λ n. Logs (written c.args.out.now) (written c.begin_seq.new.self) (seq_begins (Some n))) len c.in_ok-begin_seq.ensures in
    let all = WritesUpTo-all g.T.Described.writes _ _ _ _ (c.loop-item.invariant.2 rest shows) (shows c.loop-item.item-iterator None c.next.new.self c.in-None.ensures.steps).0 in
    let each = subst (λ xs. WritesEach g.T.Described.writes xs (written c.begin_seq.new.self) (written c.loop-item.out)) (ap rest c.into_iter-item-iterator.ensures.into_iter_gives) all in
    on_ok_weaker c.end_seq.result (λ ended. (_, _, begun, each, ended)) c.end_seq.ensures

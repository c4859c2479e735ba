use Rattle.std.proofs.Common.{rules, Some, None, refl, ap, subst}
use Rattle.std.proofs.lemmas.Result.{on_ok_weaker}
use Rattle.serde.specs.Event.{Logs, map_begins, WritesEach, WritesEntry}
use Rattle.serde.proofs.Events.{WritesUpTo-start, WritesUpTo-more, WritesUpTo-all}
use Rattle.rpds_serde.proofs.write.write_map.Goals as goal

pub loop-key-init : goal.loop-key-init
loop-key-init g c = (search rules, search rules, λ rest shows. WritesUpTo-start (WritesEntry g.K.Described.writes g.V.Described.writes) _ _ _ refl)

pub loop-key-preserved : goal.loop-key-preserved
loop-key-preserved g c = (
  search rules,
  search rules,
  λ rest shows. WritesUpTo-more (WritesEntry g.K.Described.writes g.V.Described.writes) _ _ _ (c.in-Some.key.now, c.in-Some.value.now) _ _ _ (c.loop-key.invariant.2 rest shows)
      (shows c.loop-key.key-iterator (Some (c.in-Some.key, c.in-Some.value)) c.next.new.self c.in-Some.ensures.steps)
      (_, _, _, c.in_ok-begin_key.ensures, c.in_ok-serialize.ensures, c.in_ok-end_key.ensures, c.in_ok-serialize-2.ensures),
)

pub returns : goal.returns
returns g c = λ rest shows len.
    let written = g.S.Serializer.written in
    let entry = WritesEntry g.K.Described.writes g.V.Described.writes in
    let begun = subst (λ n. Logs (written c.args.out.now) (written c.begin_map.new.self) (map_begins (Some n))) len c.in_ok-begin_map.ensures in
    let all = WritesUpTo-all entry _ _ _ _ (c.loop-key.invariant.2 rest shows) (shows c.loop-key.key-iterator None c.next.new.self c.in-None.ensures.steps).0 in
    let each = subst (λ xs. WritesEach entry xs (written c.begin_map.new.self) (written c.loop-key.out)) (ap rest c.into_iter-key-iterator.ensures.into_iter_gives) all in
    on_ok_weaker c.end_map.result (λ ended. (_, _, begun, each, ended)) c.end_map.ensures

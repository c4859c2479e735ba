use Rattle.std.proofs.Common.{arith, ◌∙◌, ◌-◌, ap, length}
use Rattle.rpds_core.specs.Rows.{behind}
use Rattle.rpds_core.proofs.Rows.{behind_take}
use Rattle.rpds_nest.proofs.Rows.{rows_are, some_row, last_room, drop_full, drop_in_row, drop_in_tail, few_first}
use Rattle.rpds_nest.proofs.nest_vector.level.LevelChangeLevels.drop_last.Goals as goal

pub returns-then-tail_len-gt0-clause-ok : goal.returns-then-tail_len-gt0-clause-ok
returns-then-tail_len-gt0-clause-ok g c =
    drop_in_tail _ c.args.self.now.tail c.requires.sound.full c.requires.counted c.len-tail_len.ensures c.truncate.new.self c.if-tail_len-gt0.true
    (ap behind c.truncate.ensures.items ∙ behind_take (c.len-tail_len.result - 1) c.args.self.now.tail.items)

pub overflow_sub-rows : goal.overflow_sub-rows
overflow_sub-rows g c = some_row _ c.args.self.now.tail c.requires.sound.full c.requires.counted c.len-tail_len.ensures (omega (arith, c.if-tail_len-gt0.false)) c.requires.some

pub get-last-requires-clause-counted : goal.get-last-requires-clause-counted
get-last-requires-clause-counted g c = rows_are _ c.args.self.now.tail c.requires.sound.full c.requires.counted c.len-tail_len.ensures (omega (arith, c.if-tail_len-gt0.false))

pub get-last-requires-clause-inside : goal.get-last-requires-clause-inside
get-last-requires-clause-inside g c =
    omega (arith, some_row _ c.args.self.now.tail c.requires.sound.full c.requires.counted c.len-tail_len.ensures (omega (arith, c.if-tail_len-gt0.false)) c.requires.some)

pub with_first-requires : goal.with_first-requires
with_first-requires g c =
    let room = last_room _ c.args.self.now.tail c.requires.sound.full c.requires.counted c.len-tail_len.ensures (omega (arith, c.if-tail_len-gt0.false)) c.get-last.result.now c.get-last.ensures in
    omega (arith, room, c.get-last.result.now.ok.0, ap length c.deref.ensures.value)

pub drop_last-requires-clause-counted : goal.drop_last-requires-clause-counted
drop_last-requires-clause-counted g c = rows_are _ c.args.self.now.tail c.requires.sound.full c.requires.counted c.len-tail_len.ensures (omega (arith, c.if-tail_len-gt0.false))

pub drop_last-requires-clause-some : goal.drop_last-requires-clause-some
drop_last-requires-clause-some g c = some_row _ c.args.self.now.tail c.requires.sound.full c.requires.counted c.len-tail_len.ensures (omega (arith, c.if-tail_len-gt0.false)) c.requires.some

pub returns-clause-ok : goal.returns-clause-ok
returns-clause-ok g c =
    drop_in_row _ c.args.self.now.tail c.requires.sound.full c.requires.counted c.len-tail_len.ensures (omega (arith, c.if-tail_len-gt0.false)) c.get-last.result.now c.in_ok-tail.tail _ c.requires.some c.get-last.ensures (rw c.deref.ensures.value at c.in_ok-tail.ensures) c.in_ok-drop_last.ensures.ok

pub returns-clause-sound : goal.returns-clause-sound
returns-clause-sound g c = record {
  sound = c.in_ok-drop_last.ensures.sound;
  full = drop_full _ c.args.self.now.tail c.requires.sound.full c.requires.counted c.len-tail_len.ensures (omega (arith, c.if-tail_len-gt0.false)) _ c.in_ok-drop_last.ensures.ok;
  few = few_first c.get-last.result.now c.in_ok-tail.tail (rw c.deref.ensures.value at c.in_ok-tail.ensures);
}

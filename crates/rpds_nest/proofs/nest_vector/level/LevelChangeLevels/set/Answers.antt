use Rattle.std.proofs.Common.{arith, ◌≡◌, ◌∙◌, ◌%◌, ◌-◌, ap, length, set}
use Rattle.std.proofs.lemmas.List.{length-set}
use Rattle.std.specs.Vec.{with_item}
use Rattle.rpds_nest.specs.Level.{contents}
use Rattle.rpds_core.proofs.Rows.{behind_set}
use Rattle.rpds_nest.proofs.Rows.{tail_within, rows_counted, row_inside, row_room, set_in_row, set_row_full, set_in_tail}
use Rattle.rpds_nest.proofs.nest_vector.level.LevelChangeLevels.set.Goals as goal

pub overflow_sub-before : goal.overflow_sub-before
overflow_sub-before g c = tail_within _ c.args.self.now.tail c.requires.sound.full c.requires.counted c.len.ensures

pub get-row-requires-clause-counted : goal.get-row-requires-clause-counted
get-row-requires-clause-counted g c = rows_counted _ c.args.self.now.tail c.requires.sound.full c.requires.counted c.len.ensures

pub get-row-requires-clause-inside : goal.get-row-requires-clause-inside
get-row-requires-clause-inside g c = row_inside _ c.args.self.now.tail c.requires.sound.full c.requires.counted c.len.ensures c.args.index c.if-index-before.true

pub with_changed-requires : goal.with_changed-requires
with_changed-requires g c =
    omega (arith, row_room _ c.args.index c.get-row.result.now c.requires.sound.full c.get-row.ensures, c.get-row.result.now.ok.0, ap length c.deref.ensures.value)

pub set-requires-clause-counted : goal.set-requires-clause-counted
set-requires-clause-counted g c = rows_counted _ c.args.self.now.tail c.requires.sound.full c.requires.counted c.len.ensures

pub set-requires-clause-inside : goal.set-requires-clause-inside
set-requires-clause-inside g c = row_inside _ c.args.self.now.tail c.requires.sound.full c.requires.counted c.len.ensures c.args.index c.if-index-before.true

pub returns-in_ok-set-clause-ok : goal.returns-in_ok-set-clause-ok
returns-in_ok-set-clause-ok g c =
    set_in_row _ c.args.self.now.tail c.requires.sound.full c.requires.counted c.len.ensures c.args.index c.get-row.result.now c.in_ok-changed_row.changed_row.value c.args.item.now.value c.if-index-before.true c.get-row.ensures
    (ap contents c.in_ok-changed_row.ensures.ok ∙ (rw c.deref.ensures.value at c.in_ok-changed.ensures) ∙ ap (λ x. set (contents c.get-row.result.now) (c.args.index % 64) x) c.in_ok-item.ensures) _ c.in_ok-set.ensures.ok

pub returns-in_ok-set-clause-sound : goal.returns-in_ok-set-clause-sound
returns-in_ok-set-clause-sound g c = record {
  sound = c.in_ok-set.ensures.sound;
  full = set_row_full _ c.args.self.now.tail c.requires.sound.full c.requires.counted c.len.ensures c.args.index c.get-row.result.now c.in_ok-changed_row.changed_row.value c.args.item.now.value c.get-row.ensures
      (ap contents c.in_ok-changed_row.ensures.ok ∙ (rw c.deref.ensures.value at c.in_ok-changed.ensures) ∙ ap (λ x. set (contents c.get-row.result.now) (c.args.index % 64) x) c.in_ok-item.ensures) _ c.in_ok-set.ensures.ok;
  few = c.requires.sound.few;
}

pub returns-else-index-before-clause-ok : goal.returns-else-index-before-clause-ok
returns-else-index-before-clause-ok g c =
    let place = c.args.index - (c.args.len - c.len.result) in
    set_in_tail _ c.args.self.now.tail c.requires.sound.full c.requires.counted c.len.ensures c.args.index (with_item c.args.self.now.tail place c.in_ok-item.item) c.args.item.now.value c.if-index-before.false
    (behind_set c.args.self.now.tail.items place c.in_ok-item.item ∙ ap (λ x. set (contents c.args.self.now.tail) place x) c.in_ok-item.ensures)

pub returns-else-index-before-clause-sound : goal.returns-else-index-before-clause-sound
returns-else-index-before-clause-sound g c =
    let place = c.args.index - (c.args.len - c.len.result) in
    let tail = c.args.self.now.tail in
    let same : contents (with_item tail place c.in_ok-item.item) ≡ set (contents tail) place c.in_ok-item.item.value = behind_set tail.items place c.in_ok-item.item in
    record {
      sound = c.requires.sound.sound;
      full = c.requires.sound.full;
      few = omega (arith, c.requires.sound.few, ap length same, length-set (contents tail) place c.in_ok-item.item.value);
    }

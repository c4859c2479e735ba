use Rattle.rpds_nest.proofs.Rows.{tail_within, rows_counted, row_inside, row_room, get_in_row, get_in_tail}
use Rattle.rpds_nest.proofs.nest_vector.level.LevelLevels.get.Goals as goal

pub overflow_sub-before : goal.overflow_sub-before
overflow_sub-before g c = tail_within _ c.args.self.now.tail c.requires.sound.full c.requires.counted c.len.ensures

pub get-row-requires-clause-counted : goal.get-row-requires-clause-counted
get-row-requires-clause-counted g c = rows_counted _ c.args.self.now.tail c.requires.sound.full c.requires.counted c.len.ensures

pub get-row-requires-clause-inside : goal.get-row-requires-clause-inside
get-row-requires-clause-inside g c = row_inside _ c.args.self.now.tail c.requires.sound.full c.requires.counted c.len.ensures c.args.index c.if-index-before.true

pub index-requires : goal.index-requires
index-requires g c = row_room _ c.args.index c.get-row.result.now c.requires.sound.full c.get-row.ensures

pub returns-then-index-before : goal.returns-then-index-before
returns-then-index-before g c =
    rw c.deref.ensures (get_in_row _ c.args.self.now.tail c.requires.sound.full c.requires.counted c.len.ensures c.args.index c.get-row.result.now c.index.result.now c.if-index-before.true c.get-row.ensures c.index.ensures)

pub returns-else-index-before : goal.returns-else-index-before
returns-else-index-before g c =
    rw c.deref-else-index-before.ensures (get_in_tail _ c.args.self.now.tail c.requires.sound.full c.requires.counted c.len.ensures c.args.index c.index-else-index-before.result.now c.if-index-before.false c.requires.inside c.index-else-index-before.ensures)

use Rattle.std.proofs.Common.{arith}
use Rattle.rpds_core.proofs.Rows.{behind_length}
use Rattle.rpds_nest.proofs.Rows.{behind_read}
use Rattle.rpds_nest.proofs.nest_vector.row.RowLevels.get.Goals as goal

pub returns : goal.returns
returns g c =
    let items = c.args.self.now.items in
    rw c.deref.ensures (behind_read items c.args.index c.index.result.now (omega (arith, behind_length items, c.requires.counted, c.requires.inside)) c.index.ensures)

use Rattle.std.proofs.Common.{◌∙◌, ◌-◌, ap}
use Rattle.rpds_core.specs.Rows.{behind}
use Rattle.rpds_core.proofs.Rows.{behind_take}
use Rattle.rpds_nest.proofs.nest_vector.row.RowChangeLevels.drop_last.Goals as goal

pub returns-clause-ok : goal.returns-clause-ok
returns-clause-ok g c = ap behind c.truncate.ensures.items ∙ behind_take (c.args.len - 1) c.args.self.now.items

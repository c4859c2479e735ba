use Rattle.std.proofs.Common.{◌∙◌, ap, set}
use Rattle.rpds_nest.specs.Level.{contents}
use Rattle.rpds_core.proofs.Rows.{behind_set}
use Rattle.rpds_nest.proofs.nest_vector.row.RowChangeLevels.set.Goals as goal

pub returns-clause-ok : goal.returns-clause-ok
returns-clause-ok g c = behind_set c.args.self.now.items c.args.index c.in_ok-item.item ∙ ap (λ x. set (contents c.args.self.now) c.args.index x) c.in_ok-item.ensures

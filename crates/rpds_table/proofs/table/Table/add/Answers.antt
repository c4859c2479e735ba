use Rattle.std.proofs.Common.{rules}
use Rattle.rpds_table.proofs.table.Table.add.Goals as goal

pub returns-clause-added : goal.returns-clause-added
returns-clause-added g c = search rules

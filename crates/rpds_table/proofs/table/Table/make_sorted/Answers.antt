use Rattle.std.proofs.Common.{rules}
use Rattle.rpds_table.proofs.table.Table.make_sorted.Goals as goal

pub returns-clause-made : goal.returns-clause-made
returns-clause-made g c = search rules

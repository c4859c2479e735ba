use Rattle.std.proofs.Common.{rules}
use Rattle.rpds_table.proofs.table.Table.make_degree.Goals as goal

pub returns-then-not-is_hashed : goal.returns-then-not-is_hashed
returns-then-not-is_hashed g c = search rules

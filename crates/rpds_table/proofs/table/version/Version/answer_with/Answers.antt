use Rattle.std.proofs.Common.{rules}
use Rattle.rpds_table.proofs.table.version.Version.answer_with.Goals as goal

pub returns-in_default : goal.returns-in_default
returns-in_default g c = search rules

use Rattle.std.proofs.Common.{rules}
use Rattle.rpds_table.proofs.table.Table.ask.Goals as goal

pub returns-in-Some-find-clause-answer : goal.returns-in-Some-find-clause-answer
returns-in-Some-find-clause-answer g c = search rules

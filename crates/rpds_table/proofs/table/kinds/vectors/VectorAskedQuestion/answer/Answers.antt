use Rattle.std.proofs.Common.{rules}
use Rattle.rpds_table.proofs.table.kinds.vectors.VectorAskedQuestion.answer.Goals as goal

pub returns-in-At-clause-counts : goal.returns-in-At-clause-counts
returns-in-At-clause-counts g c = search rules

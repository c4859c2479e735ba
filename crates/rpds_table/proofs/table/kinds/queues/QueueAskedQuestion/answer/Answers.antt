use Rattle.std.proofs.Common.{rules}
use Rattle.rpds_table.proofs.table.kinds.queues.QueueAskedQuestion.answer.Goals as goal

pub returns-in-First-clause-answer : goal.returns-in-First-clause-answer
returns-in-First-clause-answer g c = search rules

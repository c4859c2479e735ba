use Rattle.std.proofs.Common.{rules}
use Rattle.rpds_table.proofs.table.kinds.queues.QueueAskedQuestion.answer_of_two.Goals as goal

pub returns-in-Compare : goal.returns-in-Compare
returns-in-Compare g c = search rules

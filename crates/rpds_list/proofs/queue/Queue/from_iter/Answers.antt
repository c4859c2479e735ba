use Rattle.std.proofs.Common.{rules}
use Rattle.rpds_list.proofs.queue.Queue.from_iter.Goals as goal

pub returns-clause-waiting : goal.returns-clause-waiting
returns-clause-waiting g c = search rules

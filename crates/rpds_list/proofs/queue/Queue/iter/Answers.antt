use Rattle.std.proofs.Common.{rules}
use Rattle.rpds_list.proofs.queue.Queue.iter.Goals as goal

pub returns-in_err-waiting-clause-succeeds : goal.returns-in_err-waiting-clause-succeeds
returns-in_err-waiting-clause-succeeds g c = search rules

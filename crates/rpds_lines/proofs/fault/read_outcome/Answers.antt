use Rattle.std.proofs.Common.{rules}
use Rattle.rpds_lines.proofs.fault.read_outcome.Goals as goal

pub returns-in-Err-2-clause-fault : goal.returns-in-Err-2-clause-fault
returns-in-Err-2-clause-fault g c = search rules

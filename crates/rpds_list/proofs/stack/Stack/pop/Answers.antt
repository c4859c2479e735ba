use Rattle.std.proofs.Common.{rules}
use Rattle.rpds_list.proofs.stack.Stack.pop.Goals as goal

pub returns-in-Some-clause-ok : goal.returns-in-Some-clause-ok
returns-in-Some-clause-ok g c = search rules

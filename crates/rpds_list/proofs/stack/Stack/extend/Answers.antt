use Rattle.std.proofs.Common.{rules}
use Rattle.rpds_list.proofs.stack.Stack.extend.Goals as goal

pub returns-clause-ok : goal.returns-clause-ok
returns-clause-ok g c = search rules

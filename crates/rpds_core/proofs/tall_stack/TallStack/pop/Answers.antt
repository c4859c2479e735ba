use Rattle.std.proofs.Common.{arith}
use Rattle.std.proofs.lemmas.Grind.{common_steps}
use Rattle.rpds_core.proofs.tall_stack.TallStack.pop.Goals as goal

pub invariant_of-self-else-len-eq0 : goal.invariant_of-self-else-len-eq0
invariant_of-self-else-len-eq0 g c = grind (arith, common_steps)

pub returns-else-len-eq0 : goal.returns-else-len-eq0
returns-else-len-eq0 g c = grind (arith, common_steps)

use Rattle.rpds_vector.proofs.Words.{arith, common_steps}
use Rattle.rpds_vector.proofs.vector.Vector.insert.Goals as goal

pub returns-clause-ok : goal.returns-clause-ok
returns-clause-ok g c = grind (arith, common_steps)

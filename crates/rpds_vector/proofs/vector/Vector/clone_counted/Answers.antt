use Rattle.rpds_vector.proofs.Words.{rules}
use Rattle.rpds_vector.proofs.vector.Vector.clone_counted.Goals as goal

pub returns-clause-counts : goal.returns-clause-counts
returns-clause-counts g c = search rules

use Rattle.rpds_vector.proofs.Words.{arith, nat_tests}
use Rattle.rpds_vector.proofs.Roots.{last_bucket}
use Rattle.rpds_vector.proofs.vector.Vector.has_full_leaves.Goals as goal

pub returns : goal.returns
returns g c = rw (← last_bucket c.self.view_is c.self.invariant c.bucket.ensures) (grind (arith, nat_tests))

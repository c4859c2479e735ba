use Rattle.rpds_vector.proofs.Words.{refl}
use Rattle.rpds_vector.proofs.vector.walk.leaves.Leaves.of_last.Goals as goal

pub invariant_of-result : goal.invariant_of-result
invariant_of-result g c = rw c.none.ensures (c.requires, (_, refl))

use Rattle.std.proofs.Common.{refl, arith}
use Rattle.rpds_sequence.proofs.sequence.Sequence.clear.Goals as goal

pub invariant_of-self : goal.invariant_of-self
invariant_of-self g c = rw c.new.ensures record { count = refl; shallow = omega arith }

use Rattle.std.proofs.Common.{refl}
use Rattle.rpds_sequence.proofs.sequence.Sequence.extend.Goals as goal

pub same-self-in_err-longer : goal.same-self-in_err-longer
same-self-in_err-longer g c = refl

pub invariant_of-self : goal.invariant_of-self
invariant_of-self g c = c.longer.invariant

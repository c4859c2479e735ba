use Rattle.rpds_vector.proofs.Words.{arith, common_steps}
use Rattle.rpds_vector.proofs.vector.Vector.push_item.Goals as goal

pub invariant_of-self : goal.invariant_of-self
invariant_of-self g c = grind (arith, common_steps)

pub invariant_of-self-in-Some : goal.invariant_of-self-in-Some
invariant_of-self-in-Some g c = grind (arith, common_steps)

pub invariant_of-self-in_err-make_unique-in-Some : goal.invariant_of-self-in_err-make_unique-in-Some
invariant_of-self-in_err-make_unique-in-Some g c = grind (arith, common_steps)

pub invariant_of-self-in_err-push_item-in-Some : goal.invariant_of-self-in_err-push_item-in-Some
invariant_of-self-in_err-push_item-in-Some g c = grind (arith, common_steps)

use Rattle.rpds_red_black.proofs.Words.{rules}
use Rattle.rpds_red_black.proofs.walk.Walk.next_entry.Goals as goal

pub invariant_of-self : goal.invariant_of-self
invariant_of-self g c = search rules

pub returns : goal.returns
returns g c = search rules

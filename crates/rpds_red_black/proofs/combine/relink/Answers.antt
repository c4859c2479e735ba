use Rattle.rpds_red_black.proofs.Words.{arith, rules}
use Rattle.rpds_red_black.proofs.Ranks.{black_few}
use Rattle.rpds_red_black.proofs.combine.relink.Goals as goal

pub overflow_add-height : goal.overflow_add-height
overflow_add-height g c =
    let sound = rw c.left.view_is at c.prove_sound.ensures in
    let few = black_few c.args.left sound (omega (arith, c.requires.fits)) in
    rw (c.left.invariant, c.left.view_is) (omega (arith, few))

pub from_node-requires : goal.from_node-requires
from_node-requires g c = search rules

pub returns-clause-ok : goal.returns-clause-ok
returns-clause-ok g c = search rules

use Rattle.rpds_vector.proofs.Words.{arith}
use Rattle.rpds_vector.proofs.Walks.{some_back}
use Rattle.rpds_vector.proofs.vector.walk.direction.BackwardDirection.subtree.Goals as goal

pub returns-clause-next : goal.returns-clause-next
returns-clause-next g c =
    some_back c.args.vector.now c.args.left _ (omega (arith, c.requires.some)) (omega (arith, c.requires.some, c.requires.place)) c.subtree.result
    c.subtree.ensures

use Rattle.rpds_vector.proofs.Words.{arith}
use Rattle.rpds_vector.proofs.Walks.{some_forward}
use Rattle.rpds_vector.proofs.vector.walk.direction.ForwardDirection.subtree.Goals as goal

pub returns-clause-next : goal.returns-clause-next
returns-clause-next g c =
    some_forward c.args.vector.now c.args.left _ (omega (arith, c.len.ensures.len)) (omega (arith, c.len.ensures.len, c.requires.some, c.requires.place))
    c.subtree.result c.subtree.ensures

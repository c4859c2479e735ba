use Rattle.rpds_vector.proofs.Walks.{last_first}
use Rattle.rpds_vector.proofs.vector.walk.direction.BackwardDirection.split.Goals as goal

pub returns : goal.returns
returns g c = last_first c.args.row.now c.split_last.result c.split_last.ensures.cases

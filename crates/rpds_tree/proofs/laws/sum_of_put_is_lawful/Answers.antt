use Rattle.rpds_tree.proofs.MapLaws.{sum_put}
use Rattle.rpds_tree.proofs.laws.sum_of_put_is_lawful.Goals as goal

pub returns : goal.returns
returns g c = sum_put g.met.K.Ord.total

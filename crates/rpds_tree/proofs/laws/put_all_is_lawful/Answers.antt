use Rattle.rpds_tree.proofs.Extended.{found_in_all}
use Rattle.rpds_tree.proofs.laws.put_all_is_lawful.Goals as goal

pub returns : goal.returns
returns g c = found_in_all g.met.K.Ord.total

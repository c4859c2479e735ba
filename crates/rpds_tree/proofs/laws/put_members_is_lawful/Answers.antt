use Rattle.rpds_tree.proofs.Extended.{found_in_members}
use Rattle.rpds_tree.proofs.laws.put_members_is_lawful.Goals as goal

pub returns : goal.returns
returns g c = found_in_members g.met.T.Ord.total

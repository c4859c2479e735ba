use Rattle.rpds_tree.proofs.MapLaws.{find_after}
use Rattle.rpds_tree.proofs.laws.append_is_lawful.Goals as goal

pub returns : goal.returns
returns g c = find_after g.K.Ord.cmp

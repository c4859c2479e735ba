use Rattle.rpds_tree.proofs.MapLaws.{ascending_within, find_within}
use Rattle.rpds_tree.proofs.laws.within_is_lawful.Goals as goal

pub returns-clause-found : goal.returns-clause-found
returns-clause-found g c = find_within g.met.K.Ord.total

pub returns-clause-ascending : goal.returns-clause-ascending
returns-clause-ascending g c = ascending_within g.met.K.Ord.total

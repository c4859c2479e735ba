use Rattle.rpds_tree.proofs.SetUnionLaws.{ascending_apart, found_apart, length_divided}
use Rattle.rpds_tree.proofs.laws.difference_of_sets_is_lawful.Goals as goal

pub returns-clause-found : goal.returns-clause-found
returns-clause-found g c = found_apart g.met.T.Ord.total

pub returns-clause-ascending : goal.returns-clause-ascending
returns-clause-ascending g c = ascending_apart g.met.T.Ord.total

pub returns-clause-size : goal.returns-clause-size
returns-clause-size g c = length_divided g.met.T.Ord.total

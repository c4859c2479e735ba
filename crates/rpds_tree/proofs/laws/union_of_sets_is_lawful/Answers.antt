use Rattle.rpds_tree.proofs.SetUnionLaws.{ascending_united, found_united, length_united}
use Rattle.rpds_tree.proofs.laws.union_of_sets_is_lawful.Goals as goal

pub returns-clause-found : goal.returns-clause-found
returns-clause-found g c = found_united g.met.T.Ord.total

pub returns-clause-ascending : goal.returns-clause-ascending
returns-clause-ascending g c = ascending_united g.met.T.Ord.total

pub returns-clause-size : goal.returns-clause-size
returns-clause-size g c = length_united g.met.T.Ord.total

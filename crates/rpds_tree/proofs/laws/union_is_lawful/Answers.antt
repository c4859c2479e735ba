use Rattle.rpds_tree.proofs.UnionLaws.{ascending_union, found_union, length_union}
use Rattle.rpds_tree.proofs.laws.union_is_lawful.Goals as goal

pub returns-clause-found : goal.returns-clause-found
returns-clause-found g c = found_union g.met.K.Ord.total

pub returns-clause-ascending : goal.returns-clause-ascending
returns-clause-ascending g c = ascending_union g.met.K.Ord.total

pub returns-clause-size : goal.returns-clause-size
returns-clause-size g c = length_union g.met.K.Ord.total

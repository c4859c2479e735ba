use Rattle.rpds_tree.proofs.UnionLaws.{ascending_only, found_only, length_parts}
use Rattle.rpds_tree.proofs.laws.difference_is_lawful.Goals as goal

pub returns-clause-found : goal.returns-clause-found
returns-clause-found g c = found_only g.met.K.Ord.total

pub returns-clause-ascending : goal.returns-clause-ascending
returns-clause-ascending g c = ascending_only g.met.K.Ord.total

pub returns-clause-size : goal.returns-clause-size
returns-clause-size g c = length_parts g.met.K.Ord.total

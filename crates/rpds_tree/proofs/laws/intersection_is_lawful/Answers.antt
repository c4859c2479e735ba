use Rattle.rpds_tree.proofs.UnionLaws.{ascending_both, common_turned, found_both}
use Rattle.rpds_tree.proofs.laws.intersection_is_lawful.Goals as goal

pub returns-clause-found : goal.returns-clause-found
returns-clause-found g c = found_both g.met.K.Ord.total

pub returns-clause-ascending : goal.returns-clause-ascending
returns-clause-ascending g c = ascending_both g.met.K.Ord.total

pub returns-clause-turned : goal.returns-clause-turned
returns-clause-turned g c = common_turned g.met.K.Ord.total

use Rattle.rpds_tree.proofs.SetUnionLaws.{ascending_common, common_members_turned, found_common}
use Rattle.rpds_tree.proofs.laws.intersection_of_sets_is_lawful.Goals as goal

pub returns-clause-found : goal.returns-clause-found
returns-clause-found g c = found_common g.met.T.Ord.total

pub returns-clause-ascending : goal.returns-clause-ascending
returns-clause-ascending g c = ascending_common g.met.T.Ord.total

pub returns-clause-turned : goal.returns-clause-turned
returns-clause-turned g c = common_members_turned g.met.T.Ord.total

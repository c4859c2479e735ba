use Rattle.rpds_tree.proofs.NearestLaws.{floor_member_is_near, no_member_at_or_below, own_floor_member}
use Rattle.rpds_tree.proofs.laws.floor_of_set_is_lawful.Goals as goal

pub returns-clause-nearest : goal.returns-clause-nearest
returns-clause-nearest g c = floor_member_is_near g.met.T.Ord.total

pub returns-clause-absent : goal.returns-clause-absent
returns-clause-absent g c = no_member_at_or_below g.met.T.Ord.total

pub returns-clause-own : goal.returns-clause-own
returns-clause-own g c = own_floor_member g.met.T.Ord.total

use Rattle.rpds_tree.proofs.NearestLaws.{ceiling_member_is_near, no_member_at_or_above, own_ceiling_member}
use Rattle.rpds_tree.proofs.laws.ceiling_of_set_is_lawful.Goals as goal

pub returns-clause-nearest : goal.returns-clause-nearest
returns-clause-nearest g c = ceiling_member_is_near g.met.T.Ord.total

pub returns-clause-absent : goal.returns-clause-absent
returns-clause-absent g c = no_member_at_or_above g.met.T.Ord.total

pub returns-clause-own : goal.returns-clause-own
returns-clause-own g c = own_ceiling_member g.met.T.Ord.total

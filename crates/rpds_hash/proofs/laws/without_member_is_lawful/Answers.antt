use Rattle.rpds_hash.proofs.MemberLaws.{distinct_without_member, length_without_member, member_gone, member_stays}
use Rattle.rpds_hash.proofs.laws.without_member_is_lawful.Goals as goal

pub returns-clause-absent : goal.returns-clause-absent
returns-clause-absent g c = member_gone g.T.PartialEq.eq g.met.T.Eq.laws

pub returns-clause-others : goal.returns-clause-others
returns-clause-others g c = member_stays g.T.PartialEq.eq g.met.T.Eq.laws

pub returns-clause-distinct : goal.returns-clause-distinct
returns-clause-distinct g c = distinct_without_member g.T.PartialEq.eq g.met.T.Eq.laws

pub returns-clause-size : goal.returns-clause-size
returns-clause-size g c = length_without_member g.T.PartialEq.eq g.met.T.Eq.laws

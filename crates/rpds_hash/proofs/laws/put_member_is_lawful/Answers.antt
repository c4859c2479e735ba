use Rattle.rpds_hash.proofs.MemberLaws.{has_put_member, length_put_member, member_others, member_put}
use Rattle.rpds_hash.proofs.laws.put_member_is_lawful.Goals as goal

pub returns-clause-found : goal.returns-clause-found
returns-clause-found g c = member_put g.T.PartialEq.eq g.met.T.Eq.laws

pub returns-clause-others : goal.returns-clause-others
returns-clause-others g c = member_others g.T.PartialEq.eq g.met.T.Eq.laws

pub returns-clause-has : goal.returns-clause-has
returns-clause-has g c = has_put_member g.T.PartialEq.eq g.met.T.Eq.laws

pub returns-clause-size : goal.returns-clause-size
returns-clause-size g c = length_put_member g.T.PartialEq.eq g.met.T.Eq.laws

use Rattle.rpds_hash.proofs.MemberLaws.{member_at, member_permuted, member_tied, members_alike}
use Rattle.rpds_hash.proofs.laws.find_member_is_lawful.Goals as goal

pub returns-clause-permuted : goal.returns-clause-permuted
returns-clause-permuted g c = member_permuted g.T.PartialEq.eq g.met.T.Eq.laws

pub returns-clause-alike : goal.returns-clause-alike
returns-clause-alike g c = members_alike g.T.PartialEq.eq g.met.T.Eq.laws

pub returns-clause-at : goal.returns-clause-at
returns-clause-at g c = member_at g.T.PartialEq.eq g.met.T.Eq.laws

pub returns-clause-tied : goal.returns-clause-tied
returns-clause-tied g c = member_tied g.T.PartialEq.eq g.met.T.Eq.laws

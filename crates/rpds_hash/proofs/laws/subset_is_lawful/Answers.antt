use Rattle.rpds_hash.proofs.MemberLaws.{apart_disjoint, disjoint_of_members, find_same_member, subset_of_members, within_subset}
use Rattle.rpds_hash.proofs.laws.subset_is_lawful.Goals as goal

pub returns-clause-found : goal.returns-clause-found
returns-clause-found g c = within_subset g.T.PartialEq.eq g.met.T.Eq.laws

pub returns-clause-subset : goal.returns-clause-subset
returns-clause-subset g c = subset_of_members g.T.PartialEq.eq g.met.T.Eq.laws

pub returns-clause-absent : goal.returns-clause-absent
returns-clause-absent g c = apart_disjoint g.T.PartialEq.eq g.met.T.Eq.laws

pub returns-clause-disjoint : goal.returns-clause-disjoint
returns-clause-disjoint g c = disjoint_of_members g.T.PartialEq.eq g.met.T.Eq.laws

pub returns-clause-same : goal.returns-clause-same
returns-clause-same g c = find_same_member g.T.PartialEq.eq g.met.T.Eq.laws

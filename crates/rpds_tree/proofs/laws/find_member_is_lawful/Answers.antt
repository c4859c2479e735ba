use Rattle.rpds_tree.proofs.MemberLaws.{find_same_member, member_at, member_tied}
use Rattle.rpds_tree.proofs.laws.find_member_is_lawful.Goals as goal

pub returns : goal.returns
returns g c = record {
  same = find_same_member g.met.T.Ord.total;
  tied = member_tied g.met.T.Ord.total;
  at = member_at g.met.T.Ord.total;
}

use Rattle.rpds_tree.proofs.MemberLaws.{find_without_member, find_without_other_member, length_without_member, sorted_without_member}
use Rattle.rpds_tree.proofs.laws.without_member_is_lawful.Goals as goal

pub returns : goal.returns
returns g c = record {
  absent = find_without_member g.met.T.Ord.total;
  others = find_without_other_member g.met.T.Ord.total;
  ascending = sorted_without_member g.met.T.Ord.total;
  size = length_without_member g.met.T.Ord.total;
}

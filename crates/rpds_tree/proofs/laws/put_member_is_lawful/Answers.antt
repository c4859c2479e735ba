use Rattle.rpds_tree.proofs.MemberLaws.{find_put_member, find_put_other_member, has_put_member, length_put_member, sorted_put_member}
use Rattle.rpds_tree.proofs.laws.put_member_is_lawful.Goals as goal

pub returns : goal.returns
returns g c = record {
  found = find_put_member g.met.T.Ord.total;
  others = find_put_other_member g.met.T.Ord.total;
  has = has_put_member g.met.T.Ord.total;
  ascending = sorted_put_member g.met.T.Ord.total;
  size = length_put_member g.met.T.Ord.total;
}

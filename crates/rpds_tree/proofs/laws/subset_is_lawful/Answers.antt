use Rattle.rpds_tree.proofs.MemberLaws.{apart_disjoint, disjoint_of_members, find_same_member, subset_of_members, within_subset}
use Rattle.rpds_tree.proofs.laws.subset_is_lawful.Goals as goal

pub returns : goal.returns
returns g c = record {
  found = within_subset g.met.T.Ord.total;
  subset = subset_of_members g.met.T.Ord.total;
  absent = apart_disjoint g.met.T.Ord.total;
  disjoint = disjoint_of_members g.met.T.Ord.total;
  same = find_same_member g.met.T.Ord.total;
}

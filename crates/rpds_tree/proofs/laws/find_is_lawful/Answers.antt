use Rattle.rpds_red_black.proofs.Pairs.{find_same, find_tied}
use Rattle.rpds_tree.proofs.MapLaws.{find_at}
use Rattle.rpds_tree.proofs.Members.{ascending_members}
use Rattle.rpds_tree.proofs.laws.find_is_lawful.Goals as goal

pub returns : goal.returns
returns g c = record {
  same = find_same g.met.K.Ord.total;
  tied = find_tied g.met.K.Ord.total;
  at = find_at g.met.K.Ord.total;
  keys = ascending_members g.K.Ord.cmp;
}

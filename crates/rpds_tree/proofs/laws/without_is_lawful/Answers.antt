use Rattle.rpds_tree.proofs.MapLaws.{length_without}
use Rattle.rpds_red_black.proofs.Pairs.{ascending_without, find_without, find_without_other}
use Rattle.rpds_tree.proofs.laws.without_is_lawful.Goals as goal

pub returns : goal.returns
returns g c = record {
  absent = find_without g.K.Ord.cmp g.met.K.Ord.total;
  others = find_without_other g.K.Ord.cmp g.met.K.Ord.total;
  ascending = ascending_without g.K.Ord.cmp;
  size = length_without g.met.K.Ord.total;
}

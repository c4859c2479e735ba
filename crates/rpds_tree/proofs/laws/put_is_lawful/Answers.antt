use Rattle.rpds_tree.proofs.MapLaws.{find_put_other, has_put, keys_put, length_put}
use Rattle.rpds_red_black.proofs.Pairs.{ascending_put, find_put, without_put}
use Rattle.rpds_tree.proofs.laws.put_is_lawful.Goals as goal

pub returns : goal.returns
returns g c = record {
  found = find_put g.K.Ord.cmp g.met.K.Ord.total;
  others = find_put_other g.met.K.Ord.total;
  has = has_put g.met.K.Ord.total;
  rest = without_put g.K.Ord.cmp g.met.K.Ord.total;
  ascending = ascending_put g.K.Ord.cmp g.met.K.Ord.total;
  size = length_put g.met.K.Ord.total;
  keys = keys_put g.met.K.Ord.total;
}

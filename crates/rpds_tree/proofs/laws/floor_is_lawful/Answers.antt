use Rattle.rpds_tree.proofs.MapLaws.{floor_of, no_floor}
use Rattle.rpds_tree.proofs.NearestLaws.{floor_is_near, none_at_or_below, own_floor}
use Rattle.rpds_tree.proofs.laws.floor_is_lawful.Goals as goal

pub returns : goal.returns
returns g c = record {
  last = floor_of g.met.K.Ord.total;
  none = no_floor g.met.K.Ord.total;
  nearest = floor_is_near g.met.K.Ord.total;
  absent = none_at_or_below g.met.K.Ord.total;
  own = own_floor g.met.K.Ord.total;
}

use Rattle.rpds_tree.proofs.MapLaws.{ceiling_of, no_ceiling}
use Rattle.rpds_tree.proofs.NearestLaws.{ceiling_is_near, none_at_or_above, own_ceiling}
use Rattle.rpds_tree.proofs.laws.ceiling_is_lawful.Goals as goal

pub returns : goal.returns
returns g c = record {
  first = ceiling_of g.met.K.Ord.total;
  none = no_ceiling g.met.K.Ord.total;
  nearest = ceiling_is_near g.met.K.Ord.total;
  absent = none_at_or_above g.met.K.Ord.total;
  own = own_ceiling g.met.K.Ord.total;
}

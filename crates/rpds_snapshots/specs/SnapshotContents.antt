-- What a map with snapshots is seen as.
use Rattle.std.specs.Prelude.{List}
use Rattle.rpds_tree.specs.OrderedMap.{OrderedMap}

-- the map as it is now, and its snapshots, numbered from 0
pub record Contents (K V : Type 0) : Type 0 where
  pub current : OrderedMap K V
  pub taken : List (OrderedMap K V)

-- A vector and a leaf that isn't in it yet.
use Rattle.std.specs.Prelude.{◌≡◌, ◌<◌, ◌≤◌, ◌^◌, ◌%◌, List, ◌++◌, length}
use Rattle.std.specs.declared.rc.Rc.{Rc}
use Rattle.rpds_core.specs.Rows.{behind}
use Rattle.rpds_vector.specs.VectorContents.{Contents}

abbrev pub with_leaf : {T A : Type 0} → Contents T → List (Rc T A) → Contents T
with_leaf v leaf = record v { items = v.items ++ behind leaf }

-- the leaf isn't full, and waits only where all leaves of the vector are
pub record IsBuilding {T A : Type 0} (v : Contents T) (leaf : List (Rc T A)) : Type 0 where
  pub bits_in : (1 ≤ v.bits) × (v.bits < 64)
  pub few : length leaf < 2 ^ v.bits
  pub whole : 0 < length leaf → length v.items % 2 ^ v.bits ≡ 0

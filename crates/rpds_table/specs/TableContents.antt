-- What a table is seen as.
use Rattle.std.specs.Prelude.{List}
use Rattle.rpds_table.specs.declared.table.version.Version.{Version}

-- its versions, numbered from 0, and the hasher that hashed containers are made with
pub record Contents (K V H A S : Type 0) : Type 0 where
  pub hasher : H
  pub versions : List (Version K V H A S)

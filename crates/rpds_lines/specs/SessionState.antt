-- What a session keeps from line to line.
use Rattle.std.specs.Prelude.{ℕ, []}
use Rattle.rpds_snapshots.specs.SnapshotContents.{Contents as SnapshotContents}
use Rattle.rpds_table.specs.TableContents.{Contents as TableContents}
use Rattle.rpds_hash.specs.declared.identity_build.Identity.{Identity}
use Rattle.rpds_hash.specs.declared.identity_build.IdentityBuild.{IdentityBuild}

-- a table, and a map with its snapshots, both of numbers by numbers
pub record SessionState (A : Type 0) : Type 0 where
  pub table : TableContents ℕ ℕ IdentityBuild A Identity
  pub snapshots : SnapshotContents ℕ ℕ

-- no version, the empty map and no snapshot
abbrev pub empty_state : {A : Type 0} → SessionState A
empty_state = record {
  table = record { hasher = record {}; versions = [] };
  snapshots = record { current = record { entries = []; depth = 0 }; taken = [] };
}

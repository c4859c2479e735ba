-- Tables with the same versions.
use Rattle.std.specs.Prelude.{◌≡◌, ℕ, slice_get}
use Rattle.rpds_table.specs.History.{SameOption}
use Rattle.rpds_table.specs.TableContents.{Contents}

-- The hashers are the same, and the same versions stand under the same numbers.
pub record SameTables {K V H A S : Type 0} (t u : Contents K V H A S) : Type 0 where
  pub hasher : u.hasher ≡ t.hasher
  pub versions : (i : ℕ) → SameOption (slice_get t.versions i) (slice_get u.versions i)

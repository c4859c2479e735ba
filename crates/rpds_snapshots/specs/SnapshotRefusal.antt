-- The numbers of refusals.
use Rattle.std.specs.Prelude.{ℕ}
use Rattle.rpds_snapshots.specs.declared.snapshots.refusal.SnapRefusal.{SnapRefusal}
use Rattle.rpds_snapshots.specs.declared.snapshots.refusal.SnapRefusal.TheVariants.{NoSnapshot, Full, NoMemory}

-- the number under which a refusal is reported
abbrev pub number_of : SnapRefusal → ℕ
number_of NoSnapshot = 9
number_of Full = 6
number_of NoMemory = 7

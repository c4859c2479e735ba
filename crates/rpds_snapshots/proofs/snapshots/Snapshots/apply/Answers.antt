use Rattle.std.proofs.Common.{rules}
use Rattle.rpds_snapshots.proofs.snapshots.Snapshots.apply.Goals as goal

pub returns-in-Ok-remove_mut : goal.returns-in-Ok-remove_mut
returns-in-Ok-remove_mut g c = search rules

pub returns-then-size : goal.returns-then-size
returns-then-size g c = search rules

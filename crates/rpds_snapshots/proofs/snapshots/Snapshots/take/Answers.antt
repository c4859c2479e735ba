use Rattle.std.proofs.Common.{rules}
use Rattle.rpds_snapshots.proofs.snapshots.Snapshots.take.Goals as goal

pub returns : goal.returns
returns g c = search rules

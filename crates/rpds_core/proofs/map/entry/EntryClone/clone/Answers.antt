use Rattle.std.proofs.Common.{rules}
use Rattle.rpds_core.proofs.map.entry.EntryClone.clone.Goals as goal

pub returns : goal.returns
returns g c = search rules

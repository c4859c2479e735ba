use Rattle.std.proofs.Common.{rules}
use Rattle.rpds_table.proofs.table.kinds.vectors.VectorContainerOpEditVersion.edit_mut.Goals as goal

pub returns-clause-done : goal.returns-clause-done
returns-clause-done g c = search rules

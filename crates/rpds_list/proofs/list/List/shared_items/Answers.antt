use Rattle.std.proofs.Common.{arith}
use Rattle.std.proofs.lemmas.Grind.{common_steps}
use Rattle.rpds_core.proofs.Rows.{behind_append}
use Rattle.rpds_list.proofs.list.List.shared_items.Goals as goal

pub loop-link-preserved : goal.loop-link-preserved
loop-link-preserved g c = grind (arith, common_steps, behind_append)

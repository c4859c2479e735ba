use Rattle.std.proofs.Common.{arith, rules}
use Rattle.std.proofs.lemmas.Grind.{common_steps}
use Rattle.rpds_core.proofs.Rows.{behind_append}
use Rattle.rpds_list.proofs.list.List.append.Goals as goal

pub loop-item-preserved : goal.loop-item-preserved
loop-item-preserved g c = grind (arith, common_steps, behind_append)

pub loop-item-init : goal.loop-item-init
loop-item-init g c = search rules

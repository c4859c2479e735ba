use Rattle.rpds_tree.proofs.Words.{arith, common_steps}
use Rattle.rpds_tree.proofs.sorted.first_out_of_order.Goals as goal

pub returns-then-not-is_lt : goal.returns-then-not-is_lt
returns-then-not-is_lt g c = grind (arith, common_steps)

pub loop-passed-preserved : goal.loop-passed-preserved
loop-passed-preserved g c = grind (arith, common_steps)

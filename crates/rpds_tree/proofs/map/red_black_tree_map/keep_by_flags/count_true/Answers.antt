use Rattle.rpds_tree.proofs.Words.{arith}
use Rattle.rpds_tree.proofs.Chosen.{true_most}
use Rattle.rpds_tree.proofs.map.red_black_tree_map.keep_by_flags.count_true.Goals as goal

pub overflow_add-count : goal.overflow_add-count
overflow_add-count c = omega (arith, c.loop-flag.invariant, true_most c.args.flags.now)

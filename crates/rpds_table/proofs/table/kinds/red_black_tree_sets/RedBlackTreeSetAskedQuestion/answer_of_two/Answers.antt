use Rattle.std.proofs.Common.{rules}
use Rattle.rpds_table.proofs.table.kinds.red_black_tree_sets.RedBlackTreeSetAskedQuestion.answer_of_two.Goals as goal

pub returns-in-Subset : goal.returns-in-Subset
returns-in-Subset g c = search rules

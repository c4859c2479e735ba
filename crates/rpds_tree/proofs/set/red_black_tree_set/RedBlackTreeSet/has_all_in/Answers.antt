use Rattle.rpds_tree.proofs.Words.{rules}
use Rattle.rpds_tree.proofs.set.red_black_tree_set.RedBlackTreeSet.has_all_in.Goals as goal

pub returns-then-not-contains : goal.returns-then-not-contains
returns-then-not-contains g c = search rules

pub loop-member-preserved : goal.loop-member-preserved
loop-member-preserved g c = search rules

use Rattle.rpds_tree.proofs.Words.{arith}
use Rattle.rpds_tree.proofs.SetUnions.{union_rules}
use Rattle.rpds_tree.proofs.set.red_black_tree_set.RedBlackTreeSet.difference_counted.Goals as goal

pub returns-clause-ok : goal.returns-clause-ok
returns-clause-ok g c = grind (arith, union_rules)

pub returns-clause-found : goal.returns-clause-found
returns-clause-found g c = grind (arith, union_rules)

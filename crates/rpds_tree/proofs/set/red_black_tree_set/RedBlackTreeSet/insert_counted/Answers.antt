use Rattle.rpds_tree.proofs.Words.{arith}
use Rattle.rpds_tree.proofs.Members.{member_rules}
use Rattle.rpds_tree.proofs.set.red_black_tree_set.RedBlackTreeSet.insert_counted.Goals as goal

pub returns : goal.returns
returns g c = grind (arith, member_rules)

pub returns-in_err-map-clause-steps : goal.returns-in_err-map-clause-steps
returns-in_err-map-clause-steps g c = grind (arith, member_rules)

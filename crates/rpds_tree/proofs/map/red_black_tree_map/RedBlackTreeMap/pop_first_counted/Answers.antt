use Rattle.rpds_tree.proofs.Words.{rules}
use Rattle.rpds_tree.proofs.map.red_black_tree_map.RedBlackTreeMap.pop_first_counted.Goals as goal

pub returns-in-Some-Some-clause-ok : goal.returns-in-Some-Some-clause-ok
returns-in-Some-Some-clause-ok g c = search rules

pub returns-in_default-clause-ok : goal.returns-in_default-clause-ok
returns-in_default-clause-ok g c = search rules

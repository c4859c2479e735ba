use Rattle.rpds_tree.proofs.Words.{rules}
use Rattle.rpds_tree.proofs.map.red_black_tree_map.RedBlackTreeMap.remove_shared.Goals as goal

pub returns-in-Some-clause-ok : goal.returns-in-Some-clause-ok
returns-in-Some-clause-ok g c = search rules

pub returns-in-None-clause-absent : goal.returns-in-None-clause-absent
returns-in-None-clause-absent g c = search rules

pub returns-in-None-clause-ok : goal.returns-in-None-clause-ok
returns-in-None-clause-ok g c = search rules

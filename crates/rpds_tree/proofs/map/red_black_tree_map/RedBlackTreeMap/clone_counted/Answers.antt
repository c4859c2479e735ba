use Rattle.rpds_tree.proofs.Words.{rules}
use Rattle.rpds_tree.proofs.map.red_black_tree_map.RedBlackTreeMap.clone_counted.Goals as goal

pub returns-clause-counts : goal.returns-clause-counts
returns-clause-counts g c = search rules

pub returns-in_err-share-clause-counts : goal.returns-in_err-share-clause-counts
returns-in_err-share-clause-counts g c = search rules

use Rattle.rpds_tree.proofs.Words.{deref_pair}
use Rattle.rpds_tree.proofs.Runs.{shows_in_order, shows_in_reverse}
use Rattle.rpds_tree.proofs.map.red_black_tree_map.RedBlackTreeMap.range_between.Goals as goal

pub returns-clause-runs : goal.returns-clause-runs
returns-clause-runs g c = shows_in_order deref_pair

pub returns-clause-runs_back : goal.returns-clause-runs_back
returns-clause-runs_back g c = shows_in_reverse deref_pair

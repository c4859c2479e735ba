use Rattle.rpds_tree.proofs.Words.{deref}
use Rattle.rpds_tree.proofs.Runs.{shows_in_order, shows_in_reverse}
use Rattle.rpds_tree.proofs.set.red_black_tree_set.RedBlackTreeSet.range_of_forms.Goals as goal

pub returns-clause-runs : goal.returns-clause-runs
returns-clause-runs g c = shows_in_order deref

pub returns-clause-runs_back : goal.returns-clause-runs_back
returns-clause-runs_back g c = shows_in_reverse deref

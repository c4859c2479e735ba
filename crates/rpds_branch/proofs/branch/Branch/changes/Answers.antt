use Rattle.rpds_tree.proofs.Runs.{shows_in_order}
use Rattle.rpds_tree.specs.Differences.{change_value}
use Rattle.rpds_branch.proofs.branch.Branch.changes.Goals as goal

pub returns-clause-runs : goal.returns-clause-runs
returns-clause-runs g c = shows_in_order change_value

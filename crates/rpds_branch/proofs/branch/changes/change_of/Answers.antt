use Rattle.std.proofs.Common.{arith}
use Rattle.rpds_core.proofs.Counts.{within_more, within_then}
use Rattle.rpds_red_black.proofs.Spending.{looked_once}
use Rattle.rpds_branch.proofs.Touching.{looked}
use Rattle.rpds_branch.proofs.branch.changes.change_of.Goals as goal

pub returns-clause-steps : goal.returns-clause-steps
returns-clause-steps g c =
    let before = c.get_counted-before.ensures in
    let after = c.get_counted-after.ensures in
    within_more (within_then (looked_once before.compared before.least before.others) (looked_once after.compared after.least after.others))
    (omega (arith, before.depth, after.depth)) (omega arith)

pub returns-clause-compares : goal.returns-clause-compares
returns-clause-compares g c =
    let before = c.get_counted-before.ensures in
    let after = c.get_counted-after.ensures in
    omega (arith, looked c.args.old.now.entries before.least before.compares, looked c.args.new.now.entries after.least after.compares)

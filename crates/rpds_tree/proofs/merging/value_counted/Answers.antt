use Rattle.rpds_tree.proofs.Words.{arith, within_more}
use Rattle.rpds_red_black.proofs.Spending.{looked_once}
use Rattle.rpds_tree.proofs.merging.value_counted.Goals as goal

pub returns-in-Some-clause-steps : goal.returns-in-Some-clause-steps
returns-in-Some-clause-steps g c =
    let looks = c.get_counted.ensures in
    within_more (looked_once looks.compared looks.least looks.others) looks.depth (omega arith)

pub returns-in-None-clause-steps : goal.returns-in-None-clause-steps
returns-in-None-clause-steps g c =
    let looks = c.get_counted.ensures in
    within_more (looked_once looks.compared looks.least looks.others) looks.depth (omega arith)

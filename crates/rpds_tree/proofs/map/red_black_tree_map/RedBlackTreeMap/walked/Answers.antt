use Rattle.rpds_tree.proofs.Words.{◌≤◌, length, ap, rank, most_levels}
use Rattle.rpds_red_black.proofs.Spending.{whole_cut}
use Rattle.rpds_tree.proofs.map.red_black_tree_map.RedBlackTreeMap.walked.Goals as goal

pub returns-in_err-combined-clause-steps : goal.returns-in_err-combined-clause-steps
returns-in_err-combined-clause-steps g c =
    let low : rank c.in_ok-whole.whole ≤ most_levels (length c.in_ok-whole.whole.entries) = rw c.whole.view_is at c.prove_low_rank.ensures.low in
    let deep : c.in_ok-whole.whole.depth ≤ rank c.in_ok-whole.whole = rw c.whole.view_is at c.prove_low_rank.ensures.deep in
    rw (ap length c.in_ok-whole.ensures.ok, ap length c.in_ok-pieces.ensures.ok) at (whole_cut _ _ _ _ low deep (rw c.whole.view_is at c.combine.ensures.steps))

pub returns-in-None-clause-steps : goal.returns-in-None-clause-steps
returns-in-None-clause-steps g c =
    let low : rank c.in_ok-whole.whole ≤ most_levels (length c.in_ok-whole.whole.entries) = rw c.whole.view_is at c.prove_low_rank.ensures.low in
    let deep : c.in_ok-whole.whole.depth ≤ rank c.in_ok-whole.whole = rw c.whole.view_is at c.prove_low_rank.ensures.deep in
    rw (ap length c.in_ok-whole.ensures.ok, ap length c.in_ok-pieces.ensures.ok) at (whole_cut _ _ _ _ low deep (rw c.whole.view_is at c.combine.ensures.steps))

pub returns-clause-steps : goal.returns-clause-steps
returns-clause-steps g c =
    let low : rank c.in_ok-whole.whole ≤ most_levels (length c.in_ok-whole.whole.entries) = rw c.whole.view_is at c.prove_low_rank.ensures.low in
    let deep : c.in_ok-whole.whole.depth ≤ rank c.in_ok-whole.whole = rw c.whole.view_is at c.prove_low_rank.ensures.deep in
    rw (ap length c.in_ok-whole.ensures.ok, ap length c.in_ok-pieces.ensures.ok) at (whole_cut _ _ _ _ low deep (rw c.whole.view_is at c.combine.ensures.steps))

pub returns-in-None-clause-compares : goal.returns-in-None-clause-compares
returns-in-None-clause-compares g c =
    rw (c.in_ok-whole.ensures.ok, c.in_ok-pieces.ensures.ok) at (rw c.whole.view_is at c.in_ok-combined.ensures.compares)

pub returns-clause-compares : goal.returns-clause-compares
returns-clause-compares g c =
    rw (c.in_ok-whole.ensures.ok, c.in_ok-pieces.ensures.ok) at (rw c.whole.view_is at c.in_ok-combined.ensures.compares)

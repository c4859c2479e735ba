use Rattle.rpds_tree.proofs.Words.{◌≤◌, length, ap, rank, most_levels}
use Rattle.rpds_red_black.proofs.Spending.{whole_walk}
use Rattle.rpds_tree.proofs.map.red_black_tree_map.RedBlackTreeMap.sifted.Goals as goal

pub returns-in_err-sifted-clause-steps : goal.returns-in_err-sifted-clause-steps
returns-in_err-sifted-clause-steps g c =
    let low : rank c.in_ok-others.others ≤ most_levels (length c.in_ok-others.others.entries) = rw c.others.view_is at c.prove_low_rank.ensures.low in
    rw (ap length c.in_ok-whole.ensures.ok, ap length c.in_ok-others.ensures.ok) at (whole_walk _ _ _ low (rw c.whole.view_is at c.sift.ensures.steps))

pub returns-clause-steps : goal.returns-clause-steps
returns-clause-steps g c =
    let low : rank c.in_ok-others.others ≤ most_levels (length c.in_ok-others.others.entries) = rw c.others.view_is at c.prove_low_rank.ensures.low in
    rw (ap length c.in_ok-whole.ensures.ok, ap length c.in_ok-others.ensures.ok) at (whole_walk _ _ _ low (rw c.whole.view_is at c.sift.ensures.steps))

pub returns-clause-compares : goal.returns-clause-compares
returns-clause-compares g c =
    rw (c.in_ok-whole.ensures.ok, c.in_ok-others.ensures.ok) at (rw c.whole.view_is at c.in_ok-sifted.ensures.compares)

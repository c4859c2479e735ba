use Rattle.std.proofs.Common.{arith, ◌+◌, ◌*◌, length, ap}
use Rattle.rpds_branch.specs.Branches.{branched, most_pairs}
use Rattle.rpds_core.proofs.Counts.{within_more, within_same}
use Rattle.rpds_red_black.specs.Logarithm.{most_levels}
use Rattle.rpds_branch.proofs.branch.Branch.rebase_counted.Goals as goal

pub returns-in_err-branch-clause-steps : goal.returns-in_err-branch-clause-steps
returns-in_err-branch-clause-steps g c = within_same _ _ _

pub returns-clause-steps : goal.returns-clause-steps
returns-clause-steps g c =
    let count = length c.args.self.now.touched in
    let new = c.in_ok-branch.ensures in
    let compared = ap (λ n. count * (6 * most_levels n)) (λ i. most_pairs (branched (new.base i) (new.current i) (new.touched i)) c.args.self.now) in
    let made = ap (λ n. count * (13 * most_levels n + 4)) (λ i. most_pairs (branched (new.base i) (new.current i) (new.touched i)) c.args.self.now) in
    within_more c.merge_ours_counted.ensures.steps (omega (arith, compared)) (omega (arith, made))

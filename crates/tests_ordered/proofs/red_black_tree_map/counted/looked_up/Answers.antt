use Rattle.std.proofs.Common.{◌≤◌, ◌+◌, length, ap, arith}
use Rattle.rpds_tree.specs.Logarithm.{most_levels}
use Rattle.tests_ordered.proofs.Compared.{compares_rows, none_compared}
use Rattle.tests_ordered.proofs.red_black_tree_map.counted.looked_up.Goals as goal

pub returns : goal.returns
returns g c =
    let old = c.args.steps.now in
    let new = c.get_counted.new.steps in
    let told = c.get_counted.ensures in
    let most : new.compared ≤ old.compared + most_levels (length c.args.map.now.entries) = omega (arith, told.compared, told.depth) in
    compares_rows c.args.map.now old new most (λ none. none_compared old new _ (ap (λ es. most_levels (length es)) none) most told.least told.others)

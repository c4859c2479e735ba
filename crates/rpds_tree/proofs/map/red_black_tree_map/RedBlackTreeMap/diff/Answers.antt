use Rattle.rpds_tree.specs.Differences.{change_value}
use Rattle.rpds_tree.proofs.Words.{length, ap, arith, lit<}
use Rattle.rpds_red_black.proofs.Levels.{few_levels}
use Rattle.rpds_tree.proofs.Runs.{shows_in_order}
use Rattle.rpds_tree.proofs.map.red_black_tree_map.RedBlackTreeMap.diff.Goals as goal

-- the sizes are of usize, so no path is longer than the stack
pub start-requires : goal.start-requires
start-requires g c =
    let depth = ap (λ m. m.depth) c.self.view_is in
    let few = few_levels (length c.args.self.now.entries) (omega (arith, c.size.ensures.count)) in
    (lit< tt, (c.empty.ensures, omega (arith, depth, few, c.size.ensures.ordered.shallow)))

pub start-requires-2 : goal.start-requires-2
start-requires-2 g c =
    let depth = ap (λ m. m.depth) c.other.view_is in
    let few = few_levels (length c.args.other.now.entries) (omega (arith, c.size-2.ensures.count)) in
    (lit< tt, (c.empty-2.ensures, omega (arith, depth, few, c.size-2.ensures.ordered.shallow)))

pub returns-clause-runs : goal.returns-clause-runs
returns-clause-runs g c = shows_in_order change_value

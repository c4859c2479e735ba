use Rattle.rpds_tree.proofs.Words.{length, ap, arith, lit<}
use Rattle.rpds_red_black.proofs.Levels.{few_levels}
use Rattle.rpds_tree.proofs.map.red_black_tree_map.RedBlackTreeMap.walk.Goals as goal

-- the size is a usize, so no path is longer than the stack
pub over-requires : goal.over-requires
over-requires g c =
    let depth = ap (λ m. m.depth) c.self.view_is in
    let few = few_levels (length c.args.self.now.entries) (omega (arith, c.size-size.ensures.count)) in
    (lit< tt, omega (arith, depth, few, c.size-size.ensures.ordered.shallow))

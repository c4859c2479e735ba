use Rattle.rpds_tree.proofs.Words.{ap, arith, within_more}
use Rattle.rpds_red_black.proofs.Spending.{looked_once}
use Rattle.rpds_tree.proofs.map.red_black_tree_map.RedBlackTreeMap.shared_entry_counted.Goals as goal

pub returns-clause-steps : goal.returns-clause-steps
returns-clause-steps g c =
    let looks = c.shared_entry_counted.ensures in
    let depth = ap (λ m. m.depth) c.self.view_is in
    within_more (looked_once looks.compared looks.least looks.others) (omega (arith, depth, c.size-size.ensures.ordered.shallow)) (omega arith)

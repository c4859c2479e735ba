use Rattle.rpds_tree.proofs.Words.{IfOk-weaker}
use Rattle.rpds_tree.proofs.set.red_black_tree_set.RedBlackTreeSet.from_iter.Goals as goal

pub returns-clause-members : goal.returns-clause-members
returns-clause-members g c =
    let list = c.in_ok-items.ensures in
    IfOk-weaker c.from_items.result _ _ (λ s is. (list.0, c.in_ok-items.items.items, list.1, list.2, is)) c.from_items.ensures.members

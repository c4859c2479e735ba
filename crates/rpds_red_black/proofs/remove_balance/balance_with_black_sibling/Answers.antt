use Rattle.rpds_red_black.proofs.Words.{is_right, pair_of}
use Rattle.rpds_red_black.proofs.RemoveBalance.{rebalanced_same}
use Rattle.rpds_red_black.proofs.remove_balance.balance_with_black_sibling.Goals as goal

pub returns-in-Some-clause-ok : goal.returns-in-Some-clause-ok
returns-in-Some-clause-ok g c =
    let root = c.root_node-root.result.now.value in
    let balanced = rw c.deref-sibling.ensures at c.balance_with_red_near_nephew.ensures.ok in
    rebalanced_same (is_right c.args.side) c.args.near.entries (pair_of c.args.entry.value) c.args.color c.args.far.now root c.requires.black
    c.root_node-root.ensures.same c.balance_with_red_near_nephew.result balanced

use Rattle.rpds_table.proofs.OrderedCounts.{looked_up}
use Rattle.rpds_table.proofs.table.kinds.red_black_tree_maps.RedBlackTreeMapAskedQuestion.answer.Goals as goal

pub returns-in-Key-clause-counts : goal.returns-in-Key-clause-counts
returns-in-Key-clause-counts g c =
    let e = c.get_counted.ensures in
    rw c.in-Key.is (looked_up c.args.self.now.entries c.args.self.now.depth _ _ _ e.compared e.depth e.least e.compares e.others)

pub returns-in-Contains-clause-counts : goal.returns-in-Contains-clause-counts
returns-in-Contains-clause-counts g c =
    let e = c.get_counted-in-Contains.ensures in
    rw c.in-Contains.is (looked_up c.args.self.now.entries c.args.self.now.depth _ _ _ e.compared e.depth e.least e.compares e.others)

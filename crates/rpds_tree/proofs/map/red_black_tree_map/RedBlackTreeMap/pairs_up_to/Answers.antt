use Rattle.rpds_tree.proofs.Parts.{unbounded}
use Rattle.rpds_tree.proofs.map.red_black_tree_map.RedBlackTreeMap.pairs_up_to.Goals as goal

pub returns-in-Included-clause-ok : goal.returns-in-Included-clause-ok
returns-in-Included-clause-ok g c = rw c.in-Included.is c.pairs_up_to_key.ensures.ok

pub returns-in-Excluded-clause-ok : goal.returns-in-Excluded-clause-ok
returns-in-Excluded-clause-ok g c = rw c.in-Excluded.is c.pairs_up_to_key-in-Excluded.ensures.ok

pub returns-in-Unbounded-clause-ok : goal.returns-in-Unbounded-clause-ok
returns-in-Unbounded-clause-ok g c = rw c.in-Unbounded.is (unbounded c.args.self.now c.clone.result c.clone.ensures)

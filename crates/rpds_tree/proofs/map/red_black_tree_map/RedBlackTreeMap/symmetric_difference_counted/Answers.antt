use Rattle.rpds_tree.proofs.Words.{ap, ◌∙◌, find}
use Rattle.rpds_tree.proofs.Unions.{either_is, picked_alone}
use Rattle.rpds_tree.proofs.map.red_black_tree_map.RedBlackTreeMap.symmetric_difference_counted.Goals as goal

pub returns-clause-ok : goal.returns-clause-ok
returns-clause-ok g c = c.of_counted.ensures.entries ∙ either_is g.K.Ord.cmp g.met.K.Ord.total _ _ _ c.combined.ensures.ordered
    c.combined.ensures.others_ordered c.in_ok-tree.ensures.ok

pub returns-clause-found : goal.returns-clause-found
returns-clause-found g c = λ k. ap (find g.K.Ord.cmp k) c.of_counted.ensures.entries ∙ c.in_ok-tree.ensures.ok.finds k
    ∙ picked_alone (find g.K.Ord.cmp k c.args.self.now.entries) (find g.K.Ord.cmp k c.args.other.now.entries)

use Rattle.rpds_tree.proofs.Words.{length, ap, ◌∙◌, arith, OrderedMap, find}
use Rattle.rpds_tree.proofs.Unions.{both_is, few_both, picked_both}
use Rattle.rpds_tree.proofs.map.red_black_tree_map.RedBlackTreeMap.intersection_counted.Goals as goal

pub of_counted-requires-clause-most : goal.of_counted-requires-clause-most
of_counted-requires-clause-most g c =
    let is = both_is g.K.Ord.cmp g.met.K.Ord.total c.args.self.now.entries c.args.other.now.entries _ c.combined.ensures.ordered
    c.combined.ensures.others_ordered c.in_ok-tree.ensures.ok in
    let few = few_both g.K.Ord.cmp c.args.self.now.entries c.args.other.now.entries in
    omega (arith, few, ap length is, c.self.invariant.1, ap (λ (m : OrderedMap _ _). length m.entries) c.self.view_is)

pub returns-clause-ok : goal.returns-clause-ok
returns-clause-ok g c = c.of_counted.ensures.entries ∙ both_is g.K.Ord.cmp g.met.K.Ord.total _ _ _ c.combined.ensures.ordered
    c.combined.ensures.others_ordered c.in_ok-tree.ensures.ok

pub returns-clause-found : goal.returns-clause-found
returns-clause-found g c = λ k. ap (find g.K.Ord.cmp k) c.of_counted.ensures.entries ∙ c.in_ok-tree.ensures.ok.finds k
    ∙ picked_both (find g.K.Ord.cmp k c.args.self.now.entries) (find g.K.Ord.cmp k c.args.other.now.entries)

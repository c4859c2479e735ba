use Rattle.rpds_tree.proofs.Words.{◌∙◌, [], map, subst, sym, IsAscending}
use Rattle.rpds_tree.proofs.Unions.{ascending_put_all}
use Rattle.rpds_tree.proofs.map.red_black_tree_map.RedBlackTreeMap.collected.Goals as goal

pub of_tree-requires-clause-ascending : goal.of_tree-requires-clause-ascending
of_tree-requires-clause-ascending g c =
    let pairs = map g.X.SortedItem.pair c.args.items.items in
    subst (IsAscending g.K.Ord.cmp) (sym (c.in_ok-tree.ensures.pairs ∙ c.in_ok-ordered.ensures)) (ascending_put_all g.K.Ord.cmp g.met.K.Ord.total [] pairs tt)

pub returns-clause-entries : goal.returns-clause-entries
returns-clause-entries g c = c.of_tree.ensures.entries ∙ c.in_ok-tree.ensures.pairs ∙ c.in_ok-ordered.ensures

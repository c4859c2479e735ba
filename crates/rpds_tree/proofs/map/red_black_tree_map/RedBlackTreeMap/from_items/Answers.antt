use Rattle.rpds_tree.proofs.Words.{rules, ◌≡◌, Some, None, map, sym, keys_of, first_out_of_order}
use Rattle.rpds_tree.proofs.Rising.{none_out_of_order, rises}
use Rattle.rpds_tree.proofs.map.red_black_tree_map.RedBlackTreeMap.from_items.Goals as goal

pub of_tree-requires-clause-ascending : goal.of_tree-requires-clause-ascending
of_tree-requires-clause-ascending g c =
    rises g.K.Ord.cmp g.met.K.Ord.total c.in_ok-tree.tree.entries (rw (c.in_ok-tree.ensures.pairs, ← c.deref.ensures.value) (sym c.in_default.ensures))

pub returns-in-Some-clause-empty : goal.returns-in-Some-clause-empty
returns-in-Some-clause-empty g c none =
    let fall : Some c.in-Some.position ≡ first_out_of_order g.K.Ord.cmp (keys_of (map g.X.SortedItem.pair c.args.items.items)) = rw (← c.deref.ensures.value) c.in-Some.ensures in
    let nowhere : first_out_of_order g.K.Ord.cmp (keys_of (map g.X.SortedItem.pair c.args.items.items)) ≡ None = rw none (none_out_of_order g.K.Ord.cmp) in
    absurd (cc (fall, nowhere))

pub returns-in-Some-clause-untouched : goal.returns-in-Some-clause-untouched
returns-in-Some-clause-untouched g c = search rules

pub returns-in-Some-clause-steps : goal.returns-in-Some-clause-steps
returns-in-Some-clause-steps g c = search rules

use Rattle.std.proofs.lemmas.List.Edits.{length-remove}
use Rattle.rpds_tree.proofs.Words.{◌<◌, ap, length, arith}
use Rattle.rpds_tree.proofs.Chosen.{ascending_removed}
use Rattle.rpds_tree.proofs.map.red_black_tree_map.RedBlackTreeMap.without_nth.Goals as goal

pub remove_at-requires-clause-within : goal.remove_at-requires-clause-within
remove_at-requires-clause-within g c =
    let within : c.args.position < length c.self.inside.tree.entries = rw (← c.self.view_is) at c.requires in
    omega (arith, c.self.invariant.1, within)

pub of_tree-requires-clause-ascending : goal.of_tree-requires-clause-ascending
of_tree-requires-clause-ascending g c =
    rw c.in_ok-tree.ensures.pairs (ascending_removed g.K.Ord.cmp c.args.position c.self.inside.tree.entries c.self.invariant.0.ascending)

pub of_tree-requires-clause-size : goal.of_tree-requires-clause-size
of_tree-requires-clause-size g c =
    let within : c.args.position < length c.self.inside.tree.entries = rw (← c.self.view_is) at c.requires in
    omega (
      arith,
      c.self.invariant.1,
      ap length c.in_ok-tree.ensures.pairs,
      length-remove c.self.inside.tree.entries c.args.position within,
    )

use Rattle.rpds_tree.proofs.Words.{◌∙◌, ap, length, subst, sym, IsAscending}
use Rattle.rpds_tree.proofs.Chosen.{ascending_chosen, length_chosen}
use Rattle.rpds_tree.proofs.map.red_black_tree_map.RedBlackTreeMap.built_of.Goals as goal

pub of_tree-requires-clause-ascending : goal.of_tree-requires-clause-ascending
of_tree-requires-clause-ascending g c =
    let up : IsAscending g.K.Ord.cmp c.args.self.now.entries = rw (← c.self.view_is) c.self.invariant.0.ascending in
    subst (IsAscending g.K.Ord.cmp) (sym (c.in_ok-tree.ensures.pairs ∙ c.in_ok-chosen.ensures)) (ascending_chosen g.K.Ord.cmp c.args.keeps.now
    c.args.self.now.entries up)

pub of_tree-requires-clause-size : goal.of_tree-requires-clause-size
of_tree-requires-clause-size g c =
    c.requires.count ∙ sym (length_chosen c.args.keeps.now c.args.self.now.entries c.requires.flags)
    ∙ ap length (sym (c.in_ok-tree.ensures.pairs ∙ c.in_ok-chosen.ensures))

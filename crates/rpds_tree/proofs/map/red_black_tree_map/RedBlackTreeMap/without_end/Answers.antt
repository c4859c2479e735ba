use Rattle.rpds_tree.proofs.Words.{[], length, ap, subst, ◌∙◌, arith, IsAscending, is_right, joined}
use Rattle.rpds_tree.proofs.Ends.{ascending_end, length_end, rooted}
use Rattle.rpds_tree.proofs.map.red_black_tree_map.RedBlackTreeMap.without_end.Goals as goal

pub remove_end-requires : goal.remove_end-requires
remove_end-requires g c =
    let entries = c.self.inside.tree.entries in
    rooted (length entries) c.self.inside.tree.depth c.self.invariant.0.deep (omega (arith, c.self.invariant.1, c.if-self-eq0.false))

pub of_tree-requires-clause-ascending : goal.of_tree-requires-clause-ascending
of_tree-requires-clause-ascending g c =
    let taken = c.in_ok-tree.ensures.ok in
    rw c.into_black-tree.ensures.pairs (ascending_end g.K.Ord.cmp (is_right c.args.side) taken.end c.in_ok-tree.tree.entries
    (subst (IsAscending g.K.Ord.cmp) taken.pairs c.self.invariant.0.ascending))

pub of_tree-requires-clause-size : goal.of_tree-requires-clause-size
of_tree-requires-clause-size g c =
    let taken = c.in_ok-tree.ensures.ok in
    rw c.into_black-tree.ensures.pairs (omega (
      arith,
      c.self.invariant.1,
      ap length taken.pairs,
      length_end (is_right c.args.side) taken.end
          c.in_ok-tree.tree.entries,
    ))

pub returns-clause-ok : goal.returns-clause-ok
returns-clause-ok g c =
    let taken = c.in_ok-tree.ensures.ok in
    rw (← c.self.view_is) record {
      end = taken.end;
      pairs = taken.pairs ∙ ap (λ z. joined (is_right c.args.side) [] taken.end z) (cc);
      shallow = c.of_tree.ensures.depth;
    }

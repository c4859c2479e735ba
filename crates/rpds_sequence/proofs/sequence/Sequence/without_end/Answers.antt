use Rattle.std.proofs.Common.{[], ap, ◌∙◌, arith, length}
use Rattle.std.specs.Map.{keys_of}
use Rattle.rpds_red_black.specs.Sides.{is_right, joined}
use Rattle.rpds_sequence.proofs.Items.{items_end, length_end, rooted}
use Rattle.rpds_sequence.proofs.sequence.Sequence.without_end.Goals as goal

pub remove_end-requires : goal.remove_end-requires
remove_end-requires g c =
    let tree = c.self.inside.tree in
    rooted (length tree.entries) tree.depth c.prove_sound.ensures.held (omega (arith, c.self.invariant.count, c.if-self-eq0.false))

pub of_tree-requires-clause-size : goal.of_tree-requires-clause-size
of_tree-requires-clause-size g c =
    let taken = c.in_ok-tree.ensures.ok in
    rw c.into_black.ensures.pairs (omega (
      arith,
      c.self.invariant.count,
      ap length taken.pairs,
      length_end (is_right c.args.side) taken.end c.in_ok-tree.tree.entries,
    ))

pub returns-clause-ok : goal.returns-clause-ok
returns-clause-ok g c =
    let taken = c.in_ok-tree.ensures.ok in
    let right = is_right c.args.side in
    rw (← c.self.view_is) record {
      end = taken.end.0;
      items = ap keys_of taken.pairs ∙ items_end right taken.end c.in_ok-tree.tree.entries
          ∙ ap (λ z. joined right [] taken.end.0 z) (cc);
    }

use Rattle.std.proofs.Common.{◌≡◌, ◌++◌, max, length, length-append, ap, ◌∙◌, arith}
use Rattle.std.specs.Map.{keys_of}
use Rattle.rpds_red_black.specs.Shape.{Shape}
use Rattle.rpds_red_black.proofs.Ranks.{high_within}
use Rattle.rpds_sequence.proofs.Items.{items_joined, length_items}
use Rattle.rpds_sequence.proofs.sequence.Sequence.append_counted.Goals as goal

pub returns-clause-ok : goal.returns-clause-ok
returns-clause-ok g c =
    let mine = c.self.inside.tree.entries in
    let theirs = c.other.inside.tree.entries in
    let pairs : c.into_black-tree.result.entries ≡ mine ++ theirs =
    c.into_black-tree.ensures.pairs ∙ ap (λ (s : Shape _ _). s.entries) c.joined.view_is ∙ c.in_ok-joined.ensures.ok
    ∙ ap (λ (s : Shape _ _). s.entries ++ c.in_ok-right.right.entries) (c.in_ok-left.ensures)
    ∙ ap (λ (s : Shape _ _). mine ++ s.entries) c.in_ok-right.ensures in
    rw (← c.self.view_is, ← c.other.view_is) (c.of_tree.ensures ∙ ap keys_of pairs ∙ items_joined mine theirs)

pub of_tree-requires-clause-size : goal.of_tree-requires-clause-size
of_tree-requires-clause-size g c =
    let mine = c.self.inside.tree.entries in
    let theirs = c.other.inside.tree.entries in
    let pairs : c.into_black-tree.result.entries ≡ mine ++ theirs =
    c.into_black-tree.ensures.pairs ∙ ap (λ (s : Shape _ _). s.entries) c.joined.view_is ∙ c.in_ok-joined.ensures.ok
    ∙ ap (λ (s : Shape _ _). s.entries ++ c.in_ok-right.right.entries) (c.in_ok-left.ensures)
    ∙ ap (λ (s : Shape _ _). mine ++ s.entries) c.in_ok-right.ensures in
    omega (arith, ap length pairs, length-append mine theirs, c.self.invariant.count, c.other.invariant.count, c.in_ok-size.ensures.sum)

pub returns-in_err-joined-clause-made : goal.returns-in_err-joined-clause-made
returns-in_err-joined-clause-made g c =
    let l = c.self.inside.tree in
    let r = c.other.inside.tree in
    let most = max (length l.entries) (length r.entries) in
    let spent = rw (c.in_ok-left.ensures, c.in_ok-right.ensures) at c.join_around.ensures.steps in
    rw (← c.self.view_is, ← c.other.view_is, length_items l.entries, length_items r.entries) (omega (
      arith,
      spent.made_most,
      high_within l most c.prove_sound.ensures (omega arith),
      high_within r most c.prove_sound-2.ensures (omega arith),
    ))

pub returns-clause-made : goal.returns-clause-made
returns-clause-made g c =
    let l = c.self.inside.tree in
    let r = c.other.inside.tree in
    let most = max (length l.entries) (length r.entries) in
    let spent = rw (c.in_ok-left.ensures, c.in_ok-right.ensures) at c.join_around.ensures.steps in
    rw (← c.self.view_is, ← c.other.view_is, length_items l.entries, length_items r.entries) (omega (
      arith,
      spent.made_most,
      high_within l most c.prove_sound.ensures (omega arith),
      high_within r most c.prove_sound-2.ensures (omega arith),
    ))

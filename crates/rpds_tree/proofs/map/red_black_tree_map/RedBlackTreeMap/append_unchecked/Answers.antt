use Rattle.rpds_tree.proofs.Words.{◌≡◌, ◌++◌, max, length, ap, ◌∙◌, arith, within_more, OrderedMap, Shape}
use Rattle.rpds_red_black.proofs.Ranks.{high_within}
use Rattle.rpds_tree.proofs.map.red_black_tree_map.RedBlackTreeMap.append_unchecked.Goals as goal

pub returns-in_err-joined-clause-steps : goal.returns-in_err-joined-clause-steps
returns-in_err-joined-clause-steps g c =
    let l = c.self.inside.tree in
    let r = c.other.inside.tree in
    let most = max (length l.entries) (length r.entries) in
    let spent = rw (c.in_ok-left.ensures, c.in_ok-right.ensures) at c.join_around.ensures.steps in
    rw (← c.self.view_is, ← c.other.view_is) (within_more spent (omega arith) (omega (
      arith,
      high_within l most c.prove_sound.ensures (omega arith),
      high_within r most c.prove_sound-2.ensures (omega arith),
    )))

pub returns-clause-steps : goal.returns-clause-steps
returns-clause-steps g c =
    let l = c.self.inside.tree in
    let r = c.other.inside.tree in
    let most = max (length l.entries) (length r.entries) in
    let spent = rw (c.in_ok-left.ensures, c.in_ok-right.ensures) at c.join_around.ensures.steps in
    rw (← c.self.view_is, ← c.other.view_is) (within_more spent (omega arith) (omega (
      arith,
      high_within l most c.prove_sound.ensures (omega arith),
      high_within r most c.prove_sound-2.ensures (omega arith),
    )))

pub of_counted-requires-clause-ascending : goal.of_counted-requires-clause-ascending
of_counted-requires-clause-ascending g c =
    let mine = c.args.self.now.entries in
    let theirs = c.args.other.now.entries in
    let pairs : c.into_black-tree.result.entries ≡ mine ++ theirs =
    c.into_black-tree.ensures.pairs ∙ ap (λ (s : Shape _ _). s.entries) c.joined.view_is ∙ c.in_ok-joined.ensures.ok
    ∙ ap (λ (s : Shape _ _). s.entries ++ c.in_ok-right.right.entries) (c.in_ok-left.ensures) ∙ ap (λ (s : Shape _ _). c.self.inside.tree.entries
    ++ s.entries) c.in_ok-right.ensures ∙ ap (λ (m : OrderedMap _ _). m.entries ++ c.other.inside.tree.entries) c.self.view_is
    ∙ ap (λ (m : OrderedMap _ _). mine ++ m.entries) c.other.view_is in
    rw pairs c.requires

pub returns-clause-ok : goal.returns-clause-ok
returns-clause-ok g c =
    let mine = c.args.self.now.entries in
    let theirs = c.args.other.now.entries in
    let pairs : c.into_black-tree.result.entries ≡ mine ++ theirs =
    c.into_black-tree.ensures.pairs ∙ ap (λ (s : Shape _ _). s.entries) c.joined.view_is ∙ c.in_ok-joined.ensures.ok
    ∙ ap (λ (s : Shape _ _). s.entries ++ c.in_ok-right.right.entries) (c.in_ok-left.ensures) ∙ ap (λ (s : Shape _ _). c.self.inside.tree.entries
    ++ s.entries) c.in_ok-right.ensures ∙ ap (λ (m : OrderedMap _ _). m.entries ++ c.other.inside.tree.entries) c.self.view_is
    ∙ ap (λ (m : OrderedMap _ _). mine ++ m.entries) c.other.view_is in
    c.of_counted.ensures.entries ∙ pairs

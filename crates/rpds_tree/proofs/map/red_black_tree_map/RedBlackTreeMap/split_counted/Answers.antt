use Rattle.rpds_tree.proofs.Words.{length, ap, ◌∙◌, arith, within_more, is_gt, is_lt, OrderedMap, Shape}
use Rattle.rpds_red_black.proofs.Pairs.{ascending_filter}
use Rattle.rpds_red_black.proofs.Ranks.{black_log}
use Rattle.rpds_tree.proofs.FormParts.{above_is, below_is}
use Rattle.rpds_tree.proofs.Parts.{few_filtered}
use Rattle.rpds_tree.proofs.map.red_black_tree_map.RedBlackTreeMap.split_counted.Goals as goal
use Rattle.rpds_tree.proofs.map.red_black_tree_map.RedBlackTreeMap.split_counted.Goals.{in-None, in-Some}

pub returns-in_err-before-clause-steps : goal.returns-in_err-before-clause-steps
returns-in_err-before-clause-steps g c =
    let shallow = c.self.invariant.0.shallow in
    rw (← c.self.view_is) (within_more c.cut.ensures.steps shallow (omega (arith, shallow, black_log c.self.inside.tree c.prove_sound.ensures)))

pub returns-clause-steps : goal.returns-clause-steps
returns-clause-steps g c =
    let shallow = c.self.invariant.0.shallow in
    rw (← c.self.view_is) (within_more c.cut.ensures.steps shallow (omega (arith, shallow, black_log c.self.inside.tree c.prove_sound.ensures)))

pub returns-clause-below : goal.returns-clause-below
returns-clause-below g c =
    rw (← c.self.view_is) (c.of_counted-below.ensures.entries ∙ c.into_black.ensures.pairs ∙ ap (λ (s : Shape _ _). s.entries) c.before-2.view_is
    ∙ c.in_ok-before.ensures.ok.before
    ∙ below_is g.Q.OrdKey.order g.Q.OrdKey.turned (g.Q.OrdKey.seen c.args.key) (g.met.Q.OrdKey.turns c.args.key) c.self.inside.tree.entries)

pub returns-clause-above : goal.returns-clause-above
returns-clause-above g c =
    rw (← c.self.view_is) (c.of_counted-above.ensures.entries ∙ c.into_black-2.ensures.pairs ∙ ap (λ (s : Shape _ _). s.entries) c.after.view_is
    ∙ c.in_ok-before.ensures.ok.after
    ∙ above_is g.Q.OrdKey.order g.Q.OrdKey.turned (g.Q.OrdKey.seen c.args.key) (g.met.Q.OrdKey.turns c.args.key) c.self.inside.tree.entries)

pub returns-clause-at : goal.returns-clause-at
returns-clause-at g c =
    let is = c.in_ok-before.ensures.ok.found in
    rw (← c.self.view_is) (elim c.match-found.branch [
      | in-None w ↦ rw w.at-is (rw w.in-None.is at is)
      | in-Some w ↦ rw (w.at-is, w.deref.ensures, w.deref-in-Some.ensures) (rw w.in-Some.is at is)
    ])

pub of_counted-below-requires-clause-ascending : goal.of_counted-below-requires-clause-ascending
of_counted-below-requires-clause-ascending g c = rw (c.into_black.ensures.pairs, c.before-2.view_is, c.in_ok-before.ensures.ok.before)
    (ascending_filter g.K.Ord.cmp (λ e. is_gt (g.Q.OrdKey.order (g.Q.OrdKey.seen c.args.key) e.0)) c.self.inside.tree.entries c.self.invariant.0.ascending)

pub of_counted-above-requires-clause-ascending : goal.of_counted-above-requires-clause-ascending
of_counted-above-requires-clause-ascending g c = rw (c.into_black-2.ensures.pairs, c.after.view_is, c.in_ok-before.ensures.ok.after)
    (ascending_filter g.K.Ord.cmp (λ e. is_lt (g.Q.OrdKey.order (g.Q.OrdKey.seen c.args.key) e.0)) c.self.inside.tree.entries c.self.invariant.0.ascending)

pub of_counted-below-requires-clause-most : goal.of_counted-below-requires-clause-most
of_counted-below-requires-clause-most g c = rw (c.into_black.ensures.pairs, c.before-2.view_is, c.in_ok-before.ensures.ok.before) (omega (
  arith,
  few_filtered (λ e. is_gt (g.Q.OrdKey.order (g.Q.OrdKey.seen c.args.key) e.0)) c.self.inside.tree.entries,
  c.size-size.ensures.count,
  ap (λ (m : OrderedMap _ _). length m.entries) c.self.view_is,
))

pub of_counted-above-requires-clause-most : goal.of_counted-above-requires-clause-most
of_counted-above-requires-clause-most g c = rw (c.into_black-2.ensures.pairs, c.after.view_is, c.in_ok-before.ensures.ok.after) (omega (
  arith,
  few_filtered (λ e. is_lt (g.Q.OrdKey.order (g.Q.OrdKey.seen c.args.key) e.0)) c.self.inside.tree.entries,
  c.size-size.ensures.count,
  ap (λ (m : OrderedMap _ _). length m.entries) c.self.view_is,
))

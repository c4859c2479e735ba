use Rattle.std.proofs.Common.{filter}
use Rattle.rpds_tree.proofs.Words.{◌≡◌, ◌++◌, ◌<◌, ◌^◌, [], cond, rules, is_gt, items_of, length, ap, ◌∙◌, arith, within_more, within_then, OrderedMap, bound_at, is_up_to, Shape}
use Rattle.rpds_red_black.proofs.Pairs.{ascending_filter}
use Rattle.rpds_tree.proofs.Parts.{few_filtered}
use Rattle.rpds_tree.proofs.FormParts.{up_to_is}
use Rattle.rpds_red_black.proofs.Ranks.{black_log, red_or_black}
use Rattle.rpds_tree.proofs.map.red_black_tree_map.RedBlackTreeMap.pairs_up_to_key.Given.{Over}
use Rattle.rpds_tree.proofs.map.red_black_tree_map.RedBlackTreeMap.pairs_up_to_key.Goals as goal
use Rattle.rpds_tree.proofs.map.red_black_tree_map.RedBlackTreeMap.pairs_up_to_key.Goals.{After-into_black}

-- the pairs that are kept
pairs_of_part : (g : Over) (c : After-into_black g)
    → c.into_black.result.entries ≡ filter (λ p. is_up_to g.Q.OrdKey.turned (bound_at c.args.kept (g.Q.OrdKey.seen c.args.key)) p.0) c.self.inside.tree.entries
pairs_of_part g c = c.into_black.ensures.pairs ∙ ap (λ (s : Shape _ _). s.entries) c.part.view_is ∙ c.in_ok-part.ensures.ok
    ∙ (λ i. c.in_ok-split.ensures.ok.before i ++ cond c.args.kept (items_of (c.in_ok-split.ensures.ok.found i)) [])
    ∙ up_to_is g.Q.OrdKey.order g.Q.OrdKey.turned (g.Q.OrdKey.seen c.args.key) (g.met.Q.OrdKey.turns c.args.key) c.self.inside.tree.entries
    (g.met.Q.OrdKey.searches c.args.key) c.self.invariant.0.ascending c.args.kept

pub returns-in_err-split-clause-steps : goal.returns-in_err-split-clause-steps
returns-in_err-split-clause-steps g c =
    let shallow = c.self.invariant.0.shallow in
    let low = black_log c.self.inside.tree c.prove_sound.ensures in
    rw (← c.self.view_is) (within_more c.cut.ensures.steps shallow (omega (arith, shallow, low)))

pub returns-in_err-part-clause-steps : goal.returns-in_err-part-clause-steps
returns-in_err-part-clause-steps g c =
    let shallow = c.self.invariant.0.shallow in
    let low = black_log c.self.inside.tree c.prove_sound.ensures in
    rw (← c.self.view_is) (within_more (within_then c.cut.ensures.steps c.up_to_key.ensures.steps) (omega (arith, shallow))
    (omega (arith, shallow, low, c.in_ok-split.ensures.ok.before_low, red_or_black c.self.inside.tree.color)))

pub returns-clause-steps : goal.returns-clause-steps
returns-clause-steps g c =
    let shallow = c.self.invariant.0.shallow in
    let low = black_log c.self.inside.tree c.prove_sound.ensures in
    rw (← c.self.view_is) (within_more (within_then c.cut.ensures.steps c.up_to_key.ensures.steps) (omega (arith, shallow))
    (omega (arith, shallow, low, c.in_ok-split.ensures.ok.before_low, red_or_black c.self.inside.tree.color)))

pub returns-clause-ok : goal.returns-clause-ok
returns-clause-ok g c = rw (← c.self.view_is) (c.of_counted.ensures.entries ∙ pairs_of_part g (goal.at.returns-clause-ok g c).After-into_black)

pub of_counted-requires-clause-ascending : goal.of_counted-requires-clause-ascending
of_counted-requires-clause-ascending g c =
    rw (pairs_of_part g (goal.at.of_counted-requires-clause-ascending g c).After-into_black) (ascending_filter g.K.Ord.cmp (λ p. is_up_to g.Q.OrdKey.turned (bound_at c.args.kept (g.Q.OrdKey.seen c.args.key)) p.0) c.self.inside.tree.entries
    c.self.invariant.0.ascending)

pub of_counted-requires-clause-most : goal.of_counted-requires-clause-most
of_counted-requires-clause-most g c = omega (
  arith,
  ap length (pairs_of_part g (goal.at.of_counted-requires-clause-most g c).After-into_black),
  few_filtered (λ p. is_up_to g.Q.OrdKey.turned (bound_at c.args.kept (g.Q.OrdKey.seen c.args.key)) p.0) c.self.inside.tree.entries,
  c.size-size.ensures.count,
  ap (λ (m : OrderedMap _ _). length m.entries) c.self.view_is,
)

pub up_to_key-requires : goal.up_to_key-requires
up_to_key-requires g c =
    let fits : c.self.inside.size < 2 ^ 64 = search rules in
    omega (
      arith,
      ap length c.in_ok-split.ensures.ok.before,
      few_filtered (λ e. is_gt (g.Q.OrdKey.order (g.Q.OrdKey.seen c.args.key) e.0)) c.self.inside.tree.entries,
      c.self.invariant.1,
      fits,
    )

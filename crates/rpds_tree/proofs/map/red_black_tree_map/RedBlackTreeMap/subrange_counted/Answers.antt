use Rattle.rpds_tree.proofs.Words.{◌+◌, ◌≤◌, length, ap, arith, within_more, within_then, bound_map, is_from}
use Rattle.rpds_tree.proofs.Parts.{few_filtered, within_is}
use Rattle.rpds_red_black.proofs.Ranks.{log_grows}
use Rattle.rpds_tree.proofs.map.red_black_tree_map.RedBlackTreeMap.subrange_counted.Goals as goal

pub returns-clause-ok : goal.returns-clause-ok
returns-clause-ok g c = rw (c.in_ok-part.ensures.ok, within_is g.Q.OrdKey.order g.Q.OrdKey.turned (bound_map g.Q.OrdKey.seen c.args.start) (bound_map g.Q.OrdKey.seen c.args.end) c.args.self.now.entries) at
    c.pairs_up_to.ensures.ok

pub returns-clause-steps : goal.returns-clause-steps
returns-clause-steps g c =
    let few : length c.in_ok-part.part.entries ≤ length c.args.self.now.entries = omega (
      arith,
      ap length c.in_ok-part.ensures.ok,
      few_filtered
          (λ p. is_from g.Q.OrdKey.order (bound_map g.Q.OrdKey.seen c.args.start) p.0) c.args.self.now.entries,
    ) in
    let low = log_grows (length c.in_ok-part.part.entries + 1) (length c.args.self.now.entries + 1) (omega arith) (omega (arith, few)) in
    within_more (within_then c.pairs_from.ensures.steps c.pairs_up_to.ensures.steps) (omega (arith, low)) (omega (arith, low))

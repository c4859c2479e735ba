use Rattle.rpds_tree.proofs.Words.{arith, ◌∙◌, bound_map}
use Rattle.rpds_red_black.proofs.FormBounds.{end_upward, start_upward}
use Rattle.rpds_red_black.proofs.PairPositions.{range_len_is, up_to_end}
use Rattle.rpds_tree.proofs.map.red_black_tree_map.RedBlackTreeMap.range_len_counted.Goals as goal

pub returns-clause-count : goal.returns-clause-count
returns-clause-count g c =
    let form = g.Q.OrdKey in
    let law = g.met.Q.OrdKey in
    let entries = c.self.inside.tree.entries in
    let size = c.self.invariant.1 in
    let before = c.count_outside-before.ensures.outside ∙ size in
    let after = up_to_end form.order form.turned (bound_map form.seen c.args.end) entries c.count_outside-after.result (c.count_outside-after.ensures.outside ∙ size) in
    let start = start_upward g.met.K.Ord.total form.seen form.order form.turned law.searches law.turns c.args.start in
    let end = end_upward g.met.K.Ord.total form.seen form.order form.turned law.searches law.turns c.args.end in
    let told = range_len_is start end entries c.count_outside-before.result c.count_outside-after.result c.self.invariant.0.ascending before after in
    rw (← c.self.view_is) (omega (arith, c.saturating_sub.ensures, c.saturating_sub-2.ensures, size, told))

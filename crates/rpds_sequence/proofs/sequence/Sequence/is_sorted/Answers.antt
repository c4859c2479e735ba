use Rattle.std.proofs.Common.{sym, ◌∙◌}
use Rattle.std.specs.Ordering.{partial_le}
use Rattle.rpds_sequence.proofs.Searches.{all_in_order, next_in_order, out_of_order}
use Rattle.rpds_sequence.proofs.sequence.Sequence.is_sorted.Goals as goal

pub loop-item-preserved : goal.loop-item-preserved
loop-item-preserved g c =
    next_in_order (partial_le g.T.PartialOrd.partial_cmp) c.args.self.now _ _ _ _ c.loop-item.invariant c.in-Some-next.ensures.steps (sym c.le.ensures ∙ c.if-le.true)

pub returns-else-le : goal.returns-else-le
returns-else-le g c =
    out_of_order (partial_le g.T.PartialOrd.partial_cmp) c.args.self.now _ _ _ _ c.loop-item.invariant c.in-Some-next.ensures.steps (sym c.le.ensures ∙ c.if-le.false)

pub returns : goal.returns
returns g c = all_in_order (partial_le g.T.PartialOrd.partial_cmp) c.args.self.now _ _ c.loop-item.invariant c.in_default-next.ensures.steps.0

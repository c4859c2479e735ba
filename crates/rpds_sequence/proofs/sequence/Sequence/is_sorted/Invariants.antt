use Rattle.std.proofs.Common.{length}
use Rattle.std.specs.Ordering.{partial_le}
use Rattle.rpds_sequence.proofs.Searches.{InOrder}
use Rattle.rpds_sequence.proofs.sequence.Sequence.is_sorted.Given as goal

abbrev pub invariant-loop-item : goal.invariant-loop-item
invariant-loop-item g l = InOrder (partial_le g.T.PartialOrd.partial_cmp) l.fn.self l.last l.items

abbrev pub decreases-loop-item : goal.decreases-loop-item
decreases-loop-item g l = length l.items

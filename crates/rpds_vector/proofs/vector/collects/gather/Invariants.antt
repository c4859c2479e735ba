use Rattle.std.proofs.Common.{◌≡◌, ◌-◌, ◌≤◌, ◌++◌, Some, List, length, vec_len}
use Rattle.std.specs.Iterator.{IsFinite, YieldsThen}
use Rattle.rpds_core.specs.Rows.{behind}
use Rattle.rpds_vector.proofs.vector.collects.gather.Given as goal

abbrev pub invariant-loop-alloc : goal.invariant-loop-alloc
invariant-loop-alloc g l =
    let gives = g.I.Iterator.next_gives in
    g.I.Iterator.can_next l.items × IsFinite (g.I.Iterator.remaining l.items) × (length (behind l.row.items) ≤ l.most)
    × ((before : g.row.I.Denot) → gives before (Some l.initial.item) l.initial.items → (more : List g.row.T.Denot)
    × (behind l.row.items ≡ behind l.initial.row.items ++ more) × YieldsThen gives before more (Some l.item) l.items)

abbrev pub decreases-loop-alloc : goal.decreases-loop-alloc
decreases-loop-alloc g l = l.most - vec_len l.row

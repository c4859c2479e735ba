use Rattle.std.proofs.Common.{◌≡◌, ◌++◌, ◌+◌, length, vec_len}
use Rattle.rpds_core.specs.Rows.{behind}
use Rattle.rpds_list.proofs.list.List.append.Given as goal

abbrev pub invariant-loop-item : goal.invariant-loop-item
invariant-loop-item g l =
    (behind l.items.items ++ l.joined ≡ l.self ++ l.other) × (vec_len l.items + length l.joined ≡ length l.self + length l.other)

abbrev pub decreases-loop-item : goal.decreases-loop-item
decreases-loop-item g l = vec_len l.items

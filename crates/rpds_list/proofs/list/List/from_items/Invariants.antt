use Rattle.std.proofs.Common.{◌≡◌, ◌++◌, vec_len}
use Rattle.rpds_list.proofs.list.List.from_items.Given as goal

abbrev pub invariant-loop-item : goal.invariant-loop-item
invariant-loop-item g l = l.items.items ++ l.list ≡ l.initial.items.items

abbrev pub decreases-loop-item : goal.decreases-loop-item
decreases-loop-item g l = vec_len l.items

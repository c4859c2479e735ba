use Rattle.std.proofs.Common.{◌≡◌}
use Rattle.rpds_list.proofs.list.List.from_iter.Given as goal

abbrev pub invariant-loop-item : goal.invariant-loop-item
invariant-loop-item g l = l.items.items ≡ l.yielded

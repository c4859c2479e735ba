use Rattle.std.proofs.Common.{◌≡◌, ◌+◌}
use Rattle.rpds_list.proofs.list.in_place.raise_moved.Given as goal

abbrev pub invariant-loop-i : goal.invariant-loop-i
invariant-loop-i l = l.steps ≡ record l.fn.steps { moved = l.fn.steps.moved + l._i }

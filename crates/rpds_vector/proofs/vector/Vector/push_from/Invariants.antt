use Rattle.std.proofs.Common.{◌≡◌, ◌++◌, drop, length}
use Rattle.rpds_vector.proofs.vector.Vector.push_from.Given as goal

abbrev pub invariant-loop-item : goal.invariant-loop-item
invariant-loop-item g l = record l.longer { items = l.longer.items ++ l.walk } ≡ record l.fn.longer { items = l.fn.longer.items ++ drop l.index l.self.items }

abbrev pub decreases-loop-item : goal.decreases-loop-item
decreases-loop-item g l = length l.walk

use Rattle.std.proofs.Common.{◌≡◌, ◌++◌}
use Rattle.rpds_nest.proofs.nest_vector.NestVector.extend.Given as goal

abbrev pub invariant-loop-item : goal.invariant-loop-item
invariant-loop-item g l = l.longer ≡ l.self ++ l.yielded

use Rattle.std.proofs.Common.{◌+◌}
use Rattle.rpds_core.proofs.steps.Steps.raise_moved.Given as goal

abbrev pub ghost-set : goal.ghost-set
ghost-set a = record a.self.now { moved = a.self.now.moved + 1 }

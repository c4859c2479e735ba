use Rattle.std.proofs.Common.{◌+◌}
use Rattle.rpds_core.proofs.steps.Steps.raise_made.Given as goal

abbrev pub ghost-set : goal.ghost-set
ghost-set a = record a.self.now { made = a.self.now.made + 1 }

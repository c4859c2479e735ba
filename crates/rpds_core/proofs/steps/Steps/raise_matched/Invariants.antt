use Rattle.std.proofs.Common.{◌+◌}
use Rattle.rpds_core.proofs.steps.Steps.raise_matched.Given as goal

abbrev pub ghost-set : goal.ghost-set
ghost-set a = record a.self.now { matched = a.self.now.matched + 1 }

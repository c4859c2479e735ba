use Rattle.std.proofs.Common.{◌+◌}
use Rattle.rpds_core.proofs.steps.Steps.raise_compared.Given as goal

abbrev pub ghost-set : goal.ghost-set
ghost-set a = record a.self.now { compared = a.self.now.compared + 1 }

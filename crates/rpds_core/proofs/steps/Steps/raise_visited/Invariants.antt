use Rattle.std.proofs.Common.{◌+◌}
use Rattle.rpds_core.proofs.steps.Steps.raise_visited.Given as goal

abbrev pub ghost-set : goal.ghost-set
ghost-set a = record a.self.now { visited = a.self.now.visited + 1 }

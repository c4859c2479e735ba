use Rattle.std.proofs.Common.{◌*◌, ◌+◌}
use Rattle.example_scopes.proofs.expr.Expr.+value.Given as goal

abbrev pub decreases-value : goal.decreases-value
decreases-value l = 2 * l.depth

abbrev pub decreases-value_where : goal.decreases-value_where
decreases-value_where l = 2 * l.depth + 1

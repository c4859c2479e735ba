use Rattle.std.proofs.Common.{◌*◌, ◌+◌}
use Rattle.example_scopes.proofs.+parse.Given as goal

abbrev pub decreases-parse : goal.decreases-parse
decreases-parse l = 2 * l.depth

abbrev pub decreases-parse_two : goal.decreases-parse_two
decreases-parse_two l = 2 * l.depth + 1

use Rattle.std.proofs.Common.{rules}
use Rattle.rpds_lines.proofs.parse.bound.parse_bound.Goals as goal

pub returns-in-Some : goal.returns-in-Some
returns-in-Some c = search rules

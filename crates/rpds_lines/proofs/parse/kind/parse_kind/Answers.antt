use Rattle.std.proofs.Common.{rules}
use Rattle.rpds_lines.proofs.parse.kind.parse_kind.Goals as goal

pub returns-in-hset : goal.returns-in-hset
returns-in-hset c = search rules

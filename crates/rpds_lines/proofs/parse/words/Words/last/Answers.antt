use Rattle.std.proofs.Common.{rules}
use Rattle.rpds_lines.proofs.parse.words.Words.last.Goals as goal

pub returns-in-Some : goal.returns-in-Some
returns-in-Some g c = search rules

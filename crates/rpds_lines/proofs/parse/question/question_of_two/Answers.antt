use Rattle.std.proofs.Common.{rules}
use Rattle.rpds_lines.proofs.parse.question.question_of_two.Goals as goal

pub returns-in-subset : goal.returns-in-subset
returns-in-subset c = search rules

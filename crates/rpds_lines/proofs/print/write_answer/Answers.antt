use Rattle.std.proofs.Common.{arith}
use Rattle.std.proofs.lemmas.Grind.{common_steps}
use Rattle.rpds_lines.proofs.print.write_answer.Goals as goal

pub returns-in-Pair-Some : goal.returns-in-Pair-Some
returns-in-Pair-Some g c = grind (arith, common_steps)

use Rattle.std.proofs.Common.{arith}
use Rattle.std.proofs.lemmas.Grind.{common_steps}
use Rattle.rpds_lines.proofs.parse.command.parse_write.Goals as goal

pub returns-in_err-position : goal.returns-in_err-position
returns-in_err-position g c = rw c.from_residual-in_err-position.ensures (λ command fit is. grind (arith, common_steps))

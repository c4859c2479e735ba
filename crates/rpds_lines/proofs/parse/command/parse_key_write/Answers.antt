use Rattle.std.proofs.Common.{arith, rules}
use Rattle.std.proofs.lemmas.Grind.{common_steps}
use Rattle.rpds_lines.proofs.parse.command.parse_key_write.Goals as goal

pub returns-in_err-key : goal.returns-in_err-key
returns-in_err-key g c = rw c.from_residual-in_err-key.ensures (λ command fit is. grind (arith, common_steps))

pub returns : goal.returns
returns g c = search rules

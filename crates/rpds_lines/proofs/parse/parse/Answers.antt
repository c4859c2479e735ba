use Rattle.rpds_lines.proofs.RequestLines.{request_is_text}
use Rattle.rpds_lines.proofs.parse.parse.Goals as goal

pub returns-in_default-clause-request : goal.returns-in_default-clause-request
returns-in_default-clause-request g c = λ asked held written. c.in_default.ensures.cases.0 (request_is_text c.args.line.now asked held written)

use Rattle.std.proofs.Common.{rules}
use Rattle.rpds_lines.proofs.parse.command.parse_extension.Goals as goal

pub returns-in_default-2-clause-request : goal.returns-in_default-2-clause-request
returns-in_default-2-clause-request g c = search rules

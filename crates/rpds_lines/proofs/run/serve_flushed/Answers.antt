use Rattle.std.proofs.Common.{rules}
use Rattle.rpds_lines.proofs.run.serve_flushed.Goals as goal

pub returns-in-Ok-clause-served : goal.returns-in-Ok-clause-served
returns-in-Ok-clause-served g c = search rules

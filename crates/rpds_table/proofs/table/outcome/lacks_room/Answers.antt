use Rattle.std.proofs.Common.{arith}
use Rattle.std.proofs.lemmas.Grind.{common_steps}
use Rattle.rpds_table.proofs.table.outcome.lacks_room.Goals as goal

pub returns : goal.returns
returns c = grind (arith, common_steps)

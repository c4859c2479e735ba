use Rattle.std.proofs.Common.{rules}
use Rattle.rpds_list.proofs.cells.Link.prepend.Goals as goal

pub returns-clause-items : goal.returns-clause-items
returns-clause-items g c = search rules

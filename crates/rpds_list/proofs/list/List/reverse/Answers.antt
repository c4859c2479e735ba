use Rattle.std.proofs.Common.{rules}
use Rattle.rpds_list.proofs.list.List.reverse.Goals as goal

pub returns-clause-list : goal.returns-clause-list
returns-clause-list g c = search rules

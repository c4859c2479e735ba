use Rattle.std.proofs.Common.{rules}
use Rattle.rpds_list.proofs.list.List.split_first.Goals as goal

pub returns-in-Some-Some-clause-ok : goal.returns-in-Some-Some-clause-ok
returns-in-Some-Some-clause-ok g c = search rules

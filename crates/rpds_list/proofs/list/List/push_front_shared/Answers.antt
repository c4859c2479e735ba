use Rattle.std.proofs.Common.{rules}
use Rattle.rpds_list.proofs.list.List.push_front_shared.Goals as goal

pub returns-after-self-eq0-2-clause-err : goal.returns-after-self-eq0-2-clause-err
returns-after-self-eq0-2-clause-err g c = search rules

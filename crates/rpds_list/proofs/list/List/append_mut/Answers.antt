use Rattle.std.proofs.Common.{rules}
use Rattle.rpds_list.proofs.list.List.append_mut.Goals as goal

pub returns-in_err-self-clause-err : goal.returns-in_err-self-clause-err
returns-in_err-self-clause-err g c = search rules

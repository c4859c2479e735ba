use Rattle.std.proofs.Common.{rules, arith}
use Rattle.std.proofs.lemmas.Grind.{common_steps}
use Rattle.rpds_list.proofs.Fronts.{turned_rest}
use Rattle.rpds_list.proofs.queue.Queue.dequeue_mut_counted.Goals as goal

pub returns-then-branch-clause-ok : goal.returns-then-branch-clause-ok
returns-then-branch-clause-ok g c = grind (arith, common_steps)

pub returns-in_err-out_list-clause-empty : goal.returns-in_err-out_list-clause-empty
returns-in_err-out_list-clause-empty g c = grind (arith, common_steps)

pub returns-clause-found : goal.returns-clause-found
returns-clause-found g c = grind (arith, common_steps)

pub returns-clause-ok : goal.returns-clause-ok
returns-clause-ok g c = grind (arith, common_steps)

pub returns-in_err-out_list-clause-err : goal.returns-in_err-out_list-clause-err
returns-in_err-out_list-clause-err g c = search rules

pub returns-then-branch-2-clause-ok : goal.returns-then-branch-2-clause-ok
returns-then-branch-2-clause-ok g c = grind (arith, common_steps, turned_rest)

use Rattle.rpds_tree.proofs.Words.{arith, within_more, within_then}
use Rattle.rpds_tree.proofs.map.red_black_tree_map.RedBlackTreeMap.copy_from_mut_counted.Goals as goal

pub returns-in_err-entry-clause-steps : goal.returns-in_err-entry-clause-steps
returns-in_err-entry-clause-steps g c = within_more c.in_err-entry.ensures.steps (omega arith) (omega arith)

pub returns-in-Some-clause-steps : goal.returns-in-Some-clause-steps
returns-in-Some-clause-steps g c = within_more (within_then c.in_ok-entry.ensures.steps c.insert_entry.ensures.steps) (omega arith) (omega arith)

pub returns-in_err-remove_mut_counted-in-None-clause-steps : goal.returns-in_err-remove_mut_counted-in-None-clause-steps
returns-in_err-remove_mut_counted-in-None-clause-steps g c =
    within_more (within_then c.in_ok-entry.ensures.steps c.in_err-remove_mut_counted-in-None.ensures.steps) (omega arith) (omega arith)

pub returns-in_ok-remove_mut_counted-in-None-clause-steps : goal.returns-in_ok-remove_mut_counted-in-None-clause-steps
returns-in_ok-remove_mut_counted-in-None-clause-steps g c =
    within_more (within_then c.in_ok-entry.ensures.steps c.in_ok-remove_mut_counted-in-None.ensures.steps) (omega arith) (omega arith)

use Rattle.rpds_tree.proofs.Words.{arith, rules, within_more}
use Rattle.rpds_tree.proofs.map.red_black_tree_map.RedBlackTreeMap.remove_counted.Goals as goal

pub returns-in-None-clause-steps : goal.returns-in-None-clause-steps
returns-in-None-clause-steps g c = within_more c.in_ok-remove_present.ensures.steps (omega arith) (omega arith)

pub returns-in-None-clause-unmade : goal.returns-in-None-clause-unmade
returns-in-None-clause-unmade g c = search rules

pub returns-in-Some-clause-steps : goal.returns-in-Some-clause-steps
returns-in-Some-clause-steps g c = within_more c.in_ok-remove_present.ensures.steps (omega arith) (omega arith)

pub returns-in-Some-clause-compares : goal.returns-in-Some-clause-compares
returns-in-Some-clause-compares g c = c.in_ok-remove_present.ensures.compares

pub returns-in-Some-clause-makes : goal.returns-in-Some-clause-makes
returns-in-Some-clause-makes g c = search rules

pub returns-in-None-clause-compares : goal.returns-in-None-clause-compares
returns-in-None-clause-compares g c = c.in_ok-remove_present.ensures.compares

pub returns-in_err-remove_present-clause-compares : goal.returns-in_err-remove_present-clause-compares
returns-in_err-remove_present-clause-compares g c = c.in_err-remove_present.ensures.compares

use Rattle.rpds_tree.proofs.map.red_black_tree_map.RedBlackTreeMap.insert_counted.Goals as goal

pub returns-in_err-insert_mut_counted-clause-steps : goal.returns-in_err-insert_mut_counted-clause-steps
returns-in_err-insert_mut_counted-clause-steps g c = rw c.in_ok-map.ensures at c.in_err-insert_mut_counted.ensures.steps

pub returns-clause-steps : goal.returns-clause-steps
returns-clause-steps g c = rw c.in_ok-map.ensures at c.in_ok-insert_mut_counted.ensures.steps

use Rattle.std.proofs.lemmas.Result.{on_ok_weaker}
use Rattle.rpds_tree.proofs.Words.{ap, keys_of}
use Rattle.rpds_tree.proofs.set.red_black_tree_set.RedBlackTreeSet.insert_mut_counted.Goals as goal

pub returns-clause-compares : goal.returns-clause-compares
returns-clause-compares g c =
    on_ok_weaker c.insert_mut_counted.result (λ compares some. compares (λ none. some (rw (← c.self.view_is) (ap keys_of none))))
    c.insert_mut_counted.ensures.compares

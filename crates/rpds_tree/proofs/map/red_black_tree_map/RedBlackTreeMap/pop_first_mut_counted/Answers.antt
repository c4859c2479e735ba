use Rattle.rpds_tree.proofs.Words.{sym, ◌∙◌}
use Rattle.rpds_tree.proofs.Ends.{first_apart}
use Rattle.rpds_red_black.proofs.Nearest.{no_first}
use Rattle.rpds_tree.proofs.map.red_black_tree_map.RedBlackTreeMap.pop_first_mut_counted.Goals as goal

pub returns-in-None-clause-ok : goal.returns-in-None-clause-ok
returns-in-None-clause-ok g c = no_first c.args.self.now.entries (sym c.first.ensures ∙ sym c.in_ok-cloned.ensures.ok ∙ c.in-None.is)

pub returns-in-None-clause-compares : goal.returns-in-None-clause-compares
returns-in-None-clause-compares g c = λ some. absurd (some (no_first c.args.self.now.entries (sym c.first.ensures ∙ sym c.in_ok-cloned.ensures.ok
    ∙ c.in-None.is)))

pub returns-in_ok-remove_mut_counted-in-Some-clause-ok :
    goal.returns-in_ok-remove_mut_counted-in-Some-clause-ok
returns-in_ok-remove_mut_counted-in-Some-clause-ok g c =
    rw c.in_ok-remove_mut_counted-in-Some.ensures.ok (first_apart g.K.Ord.cmp g.met.K.Ord.total c.args.self.now.entries (c.in-Some.key, c.in-Some.value)
    c.size-size.ensures.ordered.ascending (sym c.first.ensures ∙ sym c.in_ok-cloned.ensures.ok ∙ c.in-Some.is))

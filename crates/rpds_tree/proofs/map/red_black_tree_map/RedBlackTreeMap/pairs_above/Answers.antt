use Rattle.rpds_tree.proofs.Words.{◌≡◌, IfOk, ◌∙◌, subst}
use Rattle.rpds_tree.proofs.Outside.{none_kept, up_to_included, up_to_excluded}
use Rattle.rpds_tree.proofs.map.red_black_tree_map.RedBlackTreeMap.pairs_above.Goals as goal

pub returns-in-Included-clause-ok : goal.returns-in-Included-clause-ok
returns-in-Included-clause-ok g c =
    let form = g.Q.OrdKey in
    let key = c.in-Included.key in
    rw c.in-Included.is (subst (λ es. IfOk c.pairs_from_key.result (λ m. m.entries ≡ es))
    (up_to_included form.order form.turned (form.seen key) (g.met.Q.OrdKey.turns key) c.args.self.now.entries) c.pairs_from_key.ensures.ok)

pub returns-in-Excluded-clause-ok : goal.returns-in-Excluded-clause-ok
returns-in-Excluded-clause-ok g c =
    let form = g.Q.OrdKey in
    let key = c.in-Excluded.key in
    rw c.in-Excluded.is (subst (λ es. IfOk c.pairs_from_key-in-Excluded.result (λ m. m.entries ≡ es))
    (up_to_excluded form.order form.turned (form.seen key) (g.met.Q.OrdKey.turns key) c.args.self.now.entries) c.pairs_from_key-in-Excluded.ensures.ok)

pub returns-in-Unbounded-clause-ok : goal.returns-in-Unbounded-clause-ok
returns-in-Unbounded-clause-ok g c = rw c.in-Unbounded.is (c.new.ensures.empty ∙ none_kept c.args.self.now.entries)

use Rattle.rpds_tree.proofs.Words.{◌≡◌, ◌∙◌, List, ap, subst, sym, items_where_true, keys_of, set_of}
use Rattle.rpds_tree.proofs.Chosen.{keys_chosen, members_all}
use Rattle.rpds_tree.proofs.set.red_black_tree_set.RedBlackTreeSet.keep_by_flags.Goals as goal

pub returns-clause-ok : goal.returns-clause-ok
returns-clause-ok g c =
    rw (← c.self.view_is) (ap keys_of c.in_ok-map.ensures.ok ∙ keys_chosen c.args.keeps.now c.self.inside.map.entries)

pub returns-clause-all : goal.returns-clause-all
returns-clause-all g c = λ all.
    let own = subst (λ (l : List g.row.T.Denot). items_where_true c.args.keeps.now l ≡ l) (sym (ap (λ s. s.members) c.self.view_is)) all in
    ap set_of (c.in_ok-map.ensures.all (members_all c.args.keeps.now c.self.inside.map.entries own)) ∙ c.self.view_is

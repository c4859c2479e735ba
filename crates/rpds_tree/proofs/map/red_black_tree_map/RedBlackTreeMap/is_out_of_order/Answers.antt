use Rattle.rpds_tree.proofs.Words.{append-nil, ap, sym, ◌∙◌, deref_pair, option_map}
use Rattle.rpds_tree.proofs.Appending.{no_first, no_last, none_out_of_order, told_here, told_none}
use Rattle.rpds_red_black.proofs.Joining.{none_left}
use Rattle.rpds_tree.proofs.map.red_black_tree_map.RedBlackTreeMap.is_out_of_order.Goals as goal

pub returns-in_default-clause-no : goal.returns-in_default-clause-no
returns-in_default-clause-no g c =
    let none = none_left c.last.result c.in_default.not-Some in
    let empty = no_last c.args.self.now.entries (sym (ap (option_map deref_pair) none) ∙ c.last.ensures) in
    λ _. rw empty (none_out_of_order g.K.Ord.cmp g.met.K.Ord.total c.args.other.now.entries c.size-others.ensures.ordered.ascending)

pub returns-in_default-first-clause-no : goal.returns-in_default-first-clause-no
returns-in_default-first-clause-no g c =
    let none = none_left c.first.result c.in_default-first.not-Some in
    let empty = no_first c.args.other.now.entries (sym (ap (option_map deref_pair) none) ∙ c.first.ensures) in
    λ _. rw (empty, append-nil c.args.self.now.entries) (none_out_of_order g.K.Ord.cmp g.met.K.Ord.total c.args.self.now.entries c.size-size.ensures.ordered.ascending)

pub returns-clause-yes : goal.returns-clause-yes
returns-clause-yes g c = told_here g.K.Ord.cmp g.met.K.Ord.total _ _ c.size-size.ensures.ordered.ascending c.size-others.ensures.ordered.ascending _ _
    c.in-Some.ensures c.in-Some-first.ensures _ _ c.compare.ensures.order c.is_lt.ensures

pub returns-clause-no : goal.returns-clause-no
returns-clause-no g c = told_none g.K.Ord.cmp g.met.K.Ord.total _ _ c.size-size.ensures.ordered.ascending c.size-others.ensures.ordered.ascending _ _
    c.in-Some.ensures c.in-Some-first.ensures _ _ c.compare.ensures.order c.is_lt.ensures

use Rattle.std.proofs.lemmas.Result.{err_from_is_err_and}
use Rattle.rpds_tree.proofs.Words.{ap, ◌∙◌, keys_of, first_out_of_order}
use Rattle.rpds_tree.proofs.Rising.{members_alone}
use Rattle.rpds_tree.proofs.set.red_black_tree_set.RedBlackTreeSet.from_sorted_counted.Goals as goal

pub returns-in_err-map-clause-out_of_order : goal.returns-in_err-map-clause-out_of_order
returns-in_err-map-clause-out_of_order g c =
    let error = err_from_is_err_and c.from_residual.result c.from_residual.ensures.1 in
    rw (error.1, error.2) (c.in_err-map.ensures.out_of_order ∙ ap (first_out_of_order g.T.Ord.cmp) (members_alone c.args.members.items))

pub returns-clause-members : goal.returns-clause-members
returns-clause-members g c = ap keys_of c.in_ok-map.ensures.entries ∙ members_alone c.args.members.items

pub returns-clause-out_of_order : goal.returns-clause-out_of_order
returns-clause-out_of_order g c = c.in_ok-map.ensures.out_of_order ∙ ap (first_out_of_order g.T.Ord.cmp) (members_alone c.args.members.items)

use Rattle.rpds_red_black.proofs.Words.{ap, not, ◌∙◌, painted}
use Rattle.rpds_red_black.proofs.Placing.{extended_before, shared_before}
use Rattle.rpds_red_black.proofs.Splitting.{none_lent}
use Rattle.rpds_red_black.proofs.split.Split.extend_before.Goals as goal

pub returns-then-is_leaf-clause-cut : goal.returns-then-is_leaf-clause-cut
returns-then-is_leaf-clause-cut g c =
    let n = painted c.args.tree.now.color c.args.root.now in
    let none = none_lent _ (c.is_none.ensures ∙ ap not c.if-is_none.true) in
    let empty = rw c.after.view_is at (c.is_leaf.ensures.yes c.if-is_leaf.true) in
    shared_before c.args.tree.now n c.requires.even c.requires.root c.args.self c.in_ok-before.before c.in_ok-before.ensures none empty c.requires.cut

pub returns-clause-cut : goal.returns-clause-cut
returns-clause-cut g c =
    let n = painted c.args.tree.now.color c.args.root.now in
    extended_before c.args.tree.now n c.requires.even c.requires.root c.args.self c.in_ok-before-2.before c.in_ok-far.far c.in_ok-entry.entry c.in_ok-entry.ensures.cases
    c.in_ok-far.ensures c.in_ok-before-2.ensures.ok

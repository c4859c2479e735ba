use Rattle.rpds_red_black.proofs.Words.{ap, not, ◌∙◌, painted}
use Rattle.rpds_red_black.proofs.Placing.{extended_after, shared_after}
use Rattle.rpds_red_black.proofs.Splitting.{none_lent}
use Rattle.rpds_red_black.proofs.split.Split.extend_after.Goals as goal

pub returns-then-is_leaf-clause-cut : goal.returns-then-is_leaf-clause-cut
returns-then-is_leaf-clause-cut g c =
    let n = painted c.args.tree.now.color c.args.root.now in
    let none = none_lent _ (c.is_none.ensures ∙ ap not c.if-is_none.true) in
    let empty = rw c.before-then-is_none.view_is at (c.is_leaf.ensures.yes c.if-is_leaf.true) in
    shared_after c.args.tree.now n c.requires.even c.requires.root c.args.self c.in_ok-after.after c.in_ok-after.ensures none empty c.requires.cut

pub returns-clause-cut : goal.returns-clause-cut
returns-clause-cut g c =
    let n = painted c.args.tree.now.color c.args.root.now in
    extended_after c.args.tree.now n c.requires.even c.requires.root c.args.self c.in_ok-after-2.after c.in_ok-far.far c.in_ok-entry.entry c.in_ok-entry.ensures.cases
    c.in_ok-far.ensures c.in_ok-after-2.ensures.ok

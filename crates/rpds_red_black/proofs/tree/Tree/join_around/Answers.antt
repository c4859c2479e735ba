use Rattle.rpds_red_black.proofs.Words.{◌≡◌, None, pair_of}
use Rattle.rpds_red_black.proofs.Joining.{joined_ends, none_left}
use Rattle.rpds_red_black.proofs.tree.Tree.join_around.Goals as goal

pub returns-clause-ok : goal.returns-clause-ok
returns-clause-ok g c =
    let none : c.args.middle ≡ None = none_left c.args.middle c.in_default.not-Some in
    let taken = c.in_ok-first.field-0 in
    rw none (joined_ends c.args.left taken.rest c.args.right (pair_of taken.first.value) c.join-2.result c.in_ok-first.ensures.ok.pairs c.join-2.ensures.ok)

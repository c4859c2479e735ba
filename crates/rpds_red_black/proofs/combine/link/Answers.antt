use Rattle.rpds_red_black.proofs.Words.{◌≡◌, None, rank_over, pair_of}
use Rattle.rpds_red_black.proofs.Joining.{none_left}
use Rattle.rpds_red_black.proofs.Linking.{taken_linked}
use Rattle.rpds_red_black.proofs.combine.link.Goals as goal

pub returns-clause-ok : goal.returns-clause-ok
returns-clause-ok g c =
    let none : c.args.middle ≡ None = none_left c.args.middle c.in_default.not-Some in
    let taken = c.in_ok-first.field-0 in
    let off = c.in_ok-first.ensures.ok in
    rw none (taken_linked (rank_over c.args.color c.args.below) c.args.left c.args.right (pair_of taken.first.value) taken.rest off.pairs off.rank_low
    c.relink-2.result c.relink-2.ensures.ok)

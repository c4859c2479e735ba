use Rattle.std.proofs.Common.{ap, ◌∙◌}
use Rattle.rpds_branch.proofs.Changing.{changes_are}
use Rattle.rpds_branch.specs.Branches.{changes_at}
use Rattle.rpds_branch.proofs.branch.changes.Changes.new.Goals as goal

pub returns : goal.returns
returns g c =
    let es = c.args.old.now.entries in
    let fs = c.args.new.now.entries in
    ap (changes_at g.K.Ord.cmp g.V.PartialEq.eq es fs) c.iter.ensures.rest
    ∙ changes_are g.met.K.Ord.total g.V.PartialEq.eq es fs g.met.V.Eq.laws c.args.touched.now.entries c.iter.ensures.ordered.ascending
    c.size.ensures.ordered.ascending c.size-2.ensures.ordered.ascending c.requires

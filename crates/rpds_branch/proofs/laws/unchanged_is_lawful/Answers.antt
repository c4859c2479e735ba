use Rattle.std.proofs.Common.{ap}
use Rattle.rpds_branch.proofs.BranchLaws.{no_differences}
use Rattle.rpds_red_black.specs.Pairs.{find}
use Rattle.rpds_tree.proofs.DifferenceLaws.{same_of_none}
use Rattle.rpds_branch.proofs.laws.unchanged_is_lawful.Goals as goal

pub returns : goal.returns
returns g c = record {
  none = λ es. no_differences g.K.Ord.cmp g.met.V.Eq.laws es;
  same = λ base es up none k. same_of_none g.met.K.Ord.total g.V.PartialEq.eq base es k up (ap (find g.K.Ord.cmp k) none);
}

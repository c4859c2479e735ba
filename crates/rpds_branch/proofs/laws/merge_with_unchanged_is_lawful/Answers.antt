use Rattle.rpds_branch.proofs.BranchLaws.{as_ours, of_unchanged}
use Rattle.rpds_branch.proofs.Merging.{own}
use Rattle.rpds_tree.proofs.MergeSteps.{no_conflict_alone}
use Rattle.rpds_tree.specs.Differences.{value_of}
use Rattle.rpds_branch.proofs.laws.merge_with_unchanged_is_lawful.Goals as goal

pub returns : goal.returns
returns g c =
    let R = g.K.Ord.cmp in
    let e = g.met.V.Eq.laws in
    record {
      ours = λ base ours k. (as_ours R e base ours base k (own e (value_of R k base))).0;
      theirs = λ base theirs k. of_unchanged R e base theirs k;
      settled = λ base ours theirs k. (
        (as_ours R e base ours base k (own e (value_of R k base))).1,
        no_conflict_alone g.V.PartialEq.eq (value_of R k base) (value_of R k base) (value_of R k theirs) (own e (value_of R k base)),
      );
    }

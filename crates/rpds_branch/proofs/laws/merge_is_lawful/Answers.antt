use Rattle.rpds_branch.proofs.BranchLaws.{alike, apart, as_ours, as_theirs, conflict_turned}
use Rattle.rpds_branch.proofs.laws.merge_is_lawful.Goals as goal

pub returns : goal.returns
returns g c =
    let R = g.K.Ord.cmp in
    let e = g.met.V.Eq.laws in
    record {
      ours = λ base ours theirs k is. as_ours R e base ours theirs k is;
      theirs = λ base ours theirs k our their. as_theirs R e base ours theirs k our their;
      alike = λ base ours theirs k is. alike R e base ours theirs k is;
      apart = λ base ours theirs k our their both. apart R e base ours theirs k our their both;
      turned = λ base ours theirs k. conflict_turned R e base ours theirs k;
    }

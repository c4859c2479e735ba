use Rattle.rpds_branch.proofs.BranchLaws.{ascending_copied, put_back, taken_back}
use Rattle.rpds_tree.proofs.Copied.{copied}
use Rattle.rpds_branch.proofs.laws.copy_is_lawful.Goals as goal

pub returns : goal.returns
returns g c =
    let o = g.met.K.Ord.total in
    record {
      found = λ q k others es. copied o (g.met.Q.OrdKey.searches q) k others es;
      ascending = λ q others es up. ascending_copied o (g.met.Q.OrdKey.searches q) others es up;
      put_back = λ q p es up tied. put_back o (g.met.Q.OrdKey.searches q) p es up tied;
      taken_back = λ q es up. taken_back o (g.met.Q.OrdKey.searches q) es up;
    }

use Rattle.rpds_tree.proofs.DifferenceLaws.{no_differences, same_of_none}
use Rattle.rpds_tree.proofs.Words.{ap, find}
use Rattle.rpds_tree.proofs.laws.unchanged_is_lawful.Goals as goal

pub returns-clause-none : goal.returns-clause-none
returns-clause-none g c = no_differences g.K.Ord.cmp g.V.PartialEq.eq g.met.V.Eq.laws.refl

pub returns-clause-same : goal.returns-clause-same
returns-clause-same g c = λ old new up none k. same_of_none g.met.K.Ord.total g.V.PartialEq.eq old new k up (ap (find g.K.Ord.cmp k) none)

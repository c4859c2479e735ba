use Rattle.rpds_tree.proofs.DifferenceLaws.{ascending_differences, found_differences}
use Rattle.rpds_tree.proofs.laws.diff_is_lawful.Goals as goal

pub returns-clause-found : goal.returns-clause-found
returns-clause-found g c = λ k old new up. found_differences g.met.K.Ord.total g.V.PartialEq.eq old new k up

pub returns-clause-ascending : goal.returns-clause-ascending
returns-clause-ascending g c = λ old new up. ascending_differences g.met.K.Ord.total g.V.PartialEq.eq old new up

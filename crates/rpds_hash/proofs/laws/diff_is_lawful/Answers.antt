use Rattle.rpds_hash.proofs.DifferenceLaws.{distinct_differences, found_differences}
use Rattle.rpds_hash.proofs.laws.diff_is_lawful.Goals as goal

pub returns-clause-found : goal.returns-clause-found
returns-clause-found g c = λ k old new distinct. found_differences g.met.K.Eq.laws g.V.PartialEq.eq k old new distinct

pub returns-clause-distinct : goal.returns-clause-distinct
returns-clause-distinct g c = λ old new distinct distinct_new. distinct_differences g.met.K.Eq.laws g.V.PartialEq.eq old new distinct distinct_new

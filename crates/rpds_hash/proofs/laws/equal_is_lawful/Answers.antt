use Rattle.rpds_hash.proofs.PairsEqual.{equal_alike}
use Rattle.rpds_hash.proofs.laws.equal_is_lawful.Goals as goal

pub returns : goal.returns
returns g c = equal_alike g.K.PartialEq.eq g.met.K.Eq.laws g.V.PartialEq.eq g.met.V.Eq.laws.refl

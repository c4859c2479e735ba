use Rattle.rpds_hash.proofs.SizeLaws.{no_differences}
use Rattle.rpds_hash.proofs.laws.unchanged_is_lawful.Goals as goal

pub returns : goal.returns
returns g c = λ es distinct. no_differences g.met.K.Eq.laws g.V.PartialEq.eq g.met.V.Eq.laws.refl es distinct

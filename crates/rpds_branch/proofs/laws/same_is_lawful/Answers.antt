use Rattle.rpds_red_black.proofs.Cutting.{ascending_unique}
use Rattle.rpds_branch.proofs.laws.same_is_lawful.Goals as goal

pub returns : goal.returns
returns g c = λ es others up up' same. ascending_unique g.K.Ord.cmp g.met.K.Ord.total es others up up' same

use Rattle.rpds_hash.proofs.SizeLaws.{no_smaller, united_size}
use Rattle.rpds_hash.proofs.laws.union_is_lawful.Goals as goal

pub returns-clause-size : goal.returns-clause-size
returns-clause-size g c = united_size g.met.K.Eq.laws

pub returns-clause-least : goal.returns-clause-least
returns-clause-least g c = no_smaller g.met.K.Eq.laws

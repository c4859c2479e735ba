use Rattle.rpds_hash.proofs.SizeLaws.{no_smaller_set, united_members_size}
use Rattle.rpds_hash.proofs.laws.union_of_sets_is_lawful.Goals as goal

pub returns-clause-size : goal.returns-clause-size
returns-clause-size g c = united_members_size g.T.PartialEq.eq g.met.T.Eq.laws

pub returns-clause-least : goal.returns-clause-least
returns-clause-least g c = no_smaller_set g.T.PartialEq.eq g.met.T.Eq.laws

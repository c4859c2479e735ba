use Rattle.rpds_red_black.proofs.Words.{rules}
use Rattle.rpds_red_black.proofs.unique.make_unique.Goals as goal

pub returns : goal.returns
returns g c = search rules

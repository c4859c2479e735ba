use Rattle.rpds_red_black.proofs.Words.{rules}
use Rattle.rpds_red_black.proofs.combine.Kept.turned.Goals as goal

pub returns-in-Walked : goal.returns-in-Walked
returns-in-Walked c = search rules

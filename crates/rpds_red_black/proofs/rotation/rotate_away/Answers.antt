use Rattle.rpds_red_black.proofs.Words.{rules}
use Rattle.rpds_red_black.proofs.rotation.rotate_away.Goals as goal

pub returns-clause-below : goal.returns-clause-below
returns-clause-below g c = search rules

pub returns-clause-beside : goal.returns-clause-beside
returns-clause-beside g c = search rules

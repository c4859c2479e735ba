use Rattle.rpds_red_black.proofs.Words.{rules}
use Rattle.rpds_red_black.proofs.remove_in_place.was_there.Goals as goal

pub returns-in-Absent : goal.returns-in-Absent
returns-in-Absent c = search rules

use Rattle.rpds_arena.proofs.Growth.{folded-append, folded-push, length-folded}
use Rattle.rpds_arena.proofs.laws.fold_is_lawful.Goals as goal

pub returns-clause-later : goal.returns-clause-later
returns-clause-later g c = folded-append

pub returns-clause-size : goal.returns-clause-size
returns-clause-size g c = length-folded

pub returns-clause-newest : goal.returns-clause-newest
returns-clause-newest g c = folded-push

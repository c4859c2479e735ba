use Rattle.rpds_arena.proofs.Places.{place_tells, position-append}
use Rattle.rpds_arena.proofs.laws.intern_is_lawful.Goals as goal

pub returns-clause-later : goal.returns-clause-later
returns-clause-later g c = λ items more x i there. position-append (λ item. g.T.PartialEq.eq item x) items more i there

pub returns-clause-equal : goal.returns-clause-equal
returns-clause-equal g c = λ items x y n there. place_tells g.met.T.Eq.laws x y items n there

use Rattle.std.proofs.Common.{sym}
use Rattle.rpds_arena.specs.Ids.{number_of}
use Rattle.rpds_arena.proofs.Places.{place_tells}
use Rattle.rpds_arena.proofs.interner.Interner.intern.Goals as goal

pub returns-in-Some-clause-equal : goal.returns-in-Some-clause-equal
returns-in-Some-clause-equal g c = λ other.
    place_tells g.met.T.Eq.laws c.args.value other c.args.self.now (number_of c.in-Some.id) (sym c.in-Some.ensures)

use Rattle.rpds_serde.specs.Reading.{ReadsEach}
use Rattle.rpds_serde.proofs.read.read_each.Given as goal

abbrev pub invariant-loop : goal.invariant-loop
invariant-loop g l = ReadsEach g.N.Comes.reads l.items.items l.initial.from l.from

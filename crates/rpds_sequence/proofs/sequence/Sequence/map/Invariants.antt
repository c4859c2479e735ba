use Rattle.std.proofs.Common.{Ok}
use Rattle.std.specs.Fn.{FnReturnsAt}
use Rattle.rpds_core.proofs.Values.{MakesOn}
use Rattle.rpds_sequence.proofs.sequence.Sequence.map.Given as goal

abbrev pub invariant-loop-item : goal.invariant-loop-item
invariant-loop-item g l = MakesOn (λ x y. FnReturnsAt g.F.Fn l.change x (Ok y)) l.self l.item-iterator l.items.items

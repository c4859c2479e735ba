use Rattle.std.proofs.Common.{List}
use Rattle.std.specs.Iterator.{IsFinite}
use Rattle.std.specs.Map.Iter.{deref}
use Rattle.serde.proofs.Events.{WritesUpTo}
use Rattle.rpds_core.specs.Sequence.{ShowsList}
use Rattle.rpds_serde.proofs.write.write_sequence.Given as goal

abbrev pub invariant-loop-item : goal.invariant-loop-item
invariant-loop-item g l =
    g.I.Iterator.can_next l.item-iterator × IsFinite (g.I.Iterator.remaining l.item-iterator)
    × ((rest : g.row.I.Denot → List g.row.T.Denot) → ShowsList g.I.Iterator.next_gives deref rest
    → WritesUpTo g.T.Described.writes (rest l.initial.item-iterator) (rest l.item-iterator) (g.S.Serializer.written l.initial.out) (g.S.Serializer.written l.out))

use Rattle.std.proofs.Common.{List}
use Rattle.std.specs.Iterator.{IsFinite}
use Rattle.std.specs.Map.Iter.{deref_pair}
use Rattle.serde.specs.Event.{WritesEntry}
use Rattle.serde.proofs.Events.{WritesUpTo}
use Rattle.rpds_core.specs.Sequence.{ShowsList}
use Rattle.rpds_serde.proofs.write.write_map.Given as goal

abbrev pub invariant-loop-key : goal.invariant-loop-key
invariant-loop-key g l =
    g.I.Iterator.can_next l.key-iterator × IsFinite (g.I.Iterator.remaining l.key-iterator)
    × ((rest : g.row.I.Denot → List (g.row.K.Denot × g.row.V.Denot)) → ShowsList g.I.Iterator.next_gives deref_pair rest
    → WritesUpTo (WritesEntry g.K.Described.writes g.V.Described.writes) (rest l.initial.key-iterator) (rest l.key-iterator) (g.S.Serializer.written l.initial.out) (g.S.Serializer.written l.out))

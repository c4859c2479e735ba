use Rattle.std.proofs.Common.{Some, arith}
use Rattle.std.specs.Map.Iter.{deref_pair}
use Rattle.rpds_core.proofs.DoubleEnded.{from_front}
use Rattle.rpds_sequence.proofs.sequence.iter.IterIterator.next.Goals as goal

pub invariant_of-self : goal.invariant_of-self
invariant_of-self g c =
    (from_front deref_pair c.self.inside.front c.next.new.self c.self.inside.back (Some c.next.result) c.self.inside.left c.self.invariant (omega (arith, c.if-self-eq0.false)) c.next.ensures).0

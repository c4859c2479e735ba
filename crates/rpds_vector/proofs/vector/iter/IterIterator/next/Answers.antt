use Rattle.rpds_vector.proofs.Words.{Some, arith, deref, from_front}
use Rattle.rpds_vector.proofs.vector.iter.IterIterator.next.Goals as goal

pub invariant_of-self-in-Some : goal.invariant_of-self-in-Some
invariant_of-self-in-Some g c =
    (from_front deref c.self.inside.front c.next.new.self c.self.inside.back (Some c.in-Some.item) c.self.inside.left c.self.invariant (omega (arith, c.if-self-eq0.false)) c.in-Some.ensures).0

use Rattle.rpds_vector.proofs.Words.{Some, sym, ◌∙◌, arith, deref, from_back}
use Rattle.rpds_vector.proofs.vector.iter.IterDoubleEndedIterator.next_back.Goals as goal

pub invariant_of-self-in-Some : goal.invariant_of-self-in-Some
invariant_of-self-in-Some g c =
    (from_back deref c.self.inside.front c.self.inside.back c.next.new.self (Some c.in-Some.item) c.self.inside.left c.self.invariant (omega (arith, c.if-self-eq0.false)) c.in-Some.ensures).0

pub returns-in-Some-clause-steps : goal.returns-in-Some-clause-steps
returns-in-Some-clause-steps g c =
    sym c.self.view_is ∙ (from_back deref c.self.inside.front c.self.inside.back c.next.new.self (Some c.in-Some.item) c.self.inside.left c.self.invariant (omega (arith, c.if-self-eq0.false)) c.in-Some.ensures).1

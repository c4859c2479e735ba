use Rattle.std.proofs.Common.{◌-◌, [], ◌∷◌, Some, take, ap, ◌∙◌, arith}
use Rattle.std.specs.Map.{keys_of}
use Rattle.std.specs.Map.Iter.{deref_pair}
use Rattle.rpds_core.proofs.DoubleEnded.{from_back}
use Rattle.rpds_sequence.proofs.Items.{items_joined}
use Rattle.rpds_sequence.proofs.sequence.iter.IterDoubleEndedIterator.next_back.Goals as goal

pub invariant_of-self : goal.invariant_of-self
invariant_of-self g c =
    (from_back deref_pair c.self.inside.front c.self.inside.back c.next.new.self (Some c.next.result) c.self.inside.left c.self.invariant (omega (arith, c.if-self-eq0.false)) c.next.ensures).0

pub returns-clause-steps : goal.returns-clause-steps
returns-clause-steps g c =
    let step = from_back deref_pair c.self.inside.front c.self.inside.back c.next.new.self (Some c.next.result) c.self.inside.left c.self.invariant (omega (arith, c.if-self-eq0.false)) c.next.ensures in
    rw (← c.self.view_is) (ap keys_of step.1 ∙ items_joined (take (c.self.inside.left - 1) c.self.inside.front) (deref_pair c.next.result ∷ []))

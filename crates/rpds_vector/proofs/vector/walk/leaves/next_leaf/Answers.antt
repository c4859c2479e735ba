use Rattle.rpds_vector.proofs.Words.{append-nil}
use Rattle.rpds_vector.proofs.vector.walk.leaves.next_leaf.Goals as goal

pub returns-clause-next : goal.returns-clause-next
returns-clause-next g c = rw (c.in_default.ensures.items.1, append-nil _) c.leaf.ensures.next

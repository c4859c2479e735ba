use Rattle.std.proofs.Common.{◌∙◌, sym}
use Rattle.rpds_nest.proofs.Visits.{left_at}
use Rattle.rpds_nest.proofs.nest_vector.iter.IterIterator.next.Goals as goal

pub returns-clause-steps : goal.returns-clause-steps
returns-clause-steps g c = sym c.self.view_is ∙ left_at c.self.inside.vector.now c.self.inside.index c.item-item.result.now c.item-item.ensures

use Rattle.rpds_vector.proofs.Words.{sym, ◌∙◌}
use Rattle.rpds_vector.proofs.Walks.{given}
use Rattle.rpds_vector.proofs.vector.walk.leaves.Leaves.next.Goals as goal

pub overflow_sub-self : goal.overflow_sub-self
overflow_sub-self g c = (given g.D.Direction.back c.self.inside.left c.self.inside.vector.now.items c.next_leaf-items.result.now c.next_leaf-items.new.below
    c.self.invariant.0 c.next_leaf-items.ensures.next).less

pub invariant_of-self : goal.invariant_of-self
invariant_of-self g c = (given g.D.Direction.back c.self.inside.left c.self.inside.vector.now.items c.next_leaf-items.result.now c.next_leaf-items.new.below
    c.self.invariant.0 c.next_leaf-items.ensures.next).sound

pub returns-clause-items : goal.returns-clause-items
returns-clause-items g c = sym c.self.view_is ∙ (given g.D.Direction.back c.self.inside.left c.self.inside.vector.now.items c.next_leaf-items.result.now
    c.next_leaf-items.new.below c.self.invariant.0 c.next_leaf-items.ensures.next).items

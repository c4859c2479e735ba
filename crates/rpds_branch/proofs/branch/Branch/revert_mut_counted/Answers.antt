use Rattle.rpds_branch.proofs.Copying.{reverted_spares}
use Rattle.rpds_branch.proofs.branch.Branch.revert_mut_counted.Goals as goal

pub invariant_of-self : goal.invariant_of-self
invariant_of-self g c = reverted_spares g.met.K.Ord.total (g.met.Q.OrdKey.searches c.args.key) c.copy_from_mut_counted.result c.self.inside.touched.entries
    c.self.inside.base.entries c.self.inside.current c.copy_from_mut_counted.new.self c.copy_from_mut_counted.ensures.ok c.copy_from_mut_counted.ensures.err c.self.invariant

pub returns-clause-steps : goal.returns-clause-steps
returns-clause-steps g c = rw (← c.self.view_is) c.copy_from_mut_counted.ensures.steps

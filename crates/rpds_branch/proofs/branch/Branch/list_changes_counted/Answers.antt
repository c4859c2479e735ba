use Rattle.rpds_tree.proofs.Members.{length_members}
use Rattle.rpds_branch.proofs.branch.Branch.list_changes_counted.Goals as goal

pub returns-clause-steps : goal.returns-clause-steps
returns-clause-steps g c = rw (← c.self.view_is, length_members c.self.inside.touched.entries) c.list_of_changes.ensures.steps

pub returns-clause-compares : goal.returns-clause-compares
returns-clause-compares g c = rw (← c.self.view_is, length_members c.self.inside.touched.entries) c.list_of_changes.ensures.compares

use Rattle.rpds_history.proofs.Versions.{length_versions, present_at, same_history, versions_limited, versions_recorded, versions_redone, versions_undone}
use Rattle.rpds_history.proofs.laws.go_to_is_lawful.Goals as goal

pub returns-clause-size : goal.returns-clause-size
returns-clause-size g c = λ h. length_versions h

pub returns-clause-present : goal.returns-clause-present
returns-clause-present g c = λ h. present_at h

pub returns-clause-undo : goal.returns-clause-undo
returns-clause-undo g c = λ h. versions_undone h

pub returns-clause-redo : goal.returns-clause-redo
returns-clause-redo g c = λ h. versions_redone h

pub returns-clause-more : goal.returns-clause-more
returns-clause-more g c = λ next h. versions_recorded next h

pub returns-clause-limit : goal.returns-clause-limit
returns-clause-limit g c = λ most h. versions_limited most h

pub returns-clause-same : goal.returns-clause-same
returns-clause-same g c = λ g' h same place. same_history g' h same place

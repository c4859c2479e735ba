use Rattle.std.proofs.Common.{◌≡◌, length}
use Rattle.rpds_branch.specs.Branches.{changes_at}
use Rattle.rpds_branch.proofs.branch.changes.next_change.Given as goal

-- what is left decides
abbrev pub invariant-loop-key : goal.invariant-loop-key
invariant-loop-key g l = changes_at g.K.Ord.cmp g.V.PartialEq.eq l.old.entries l.new.entries l.initial.touched
    ≡ changes_at g.K.Ord.cmp g.V.PartialEq.eq l.old.entries l.new.entries l.touched

abbrev pub decreases-loop-key : goal.decreases-loop-key
decreases-loop-key g l = length l.touched

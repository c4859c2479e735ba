use Rattle.std.proofs.Common.{◌≡◌, ◌-◌, ◌≤◌, length}
use Rattle.rpds_history.specs.HistoryContents.{versions_of}
use Rattle.rpds_history.proofs.history.History.walk_to.Given as goal

abbrev pub invariant-back : goal.invariant-back
invariant-back g l = versions_of l.self ≡ versions_of l.fn.self

abbrev pub decreases-back : goal.decreases-back
decreases-back g l = length l.self.past

abbrev pub invariant-forth : goal.invariant-forth
invariant-forth g l = (versions_of l.self ≡ versions_of l.fn.self) × (length l.self.past ≤ l.index)

abbrev pub decreases-forth : goal.decreases-forth
decreases-forth g l = l.index - length l.self.past

use Rattle.std.proofs.Common.{◌≡◌, ◌-◌, ◌++◌, length, map, reverse}
use Rattle.std.specs.Map.{keys_of}
use Rattle.rpds_sequence.proofs.sequence.Sequence.reverse.Given as goal

abbrev pub invariant-loop-walk : goal.invariant-loop-walk
invariant-loop-walk g l = map (λ e. e.value.key) l.entries.items ++ keys_of l.walk ≡ reverse l.self

abbrev pub decreases-loop-walk : goal.decreases-loop-walk
decreases-loop-walk g l = l.size - length l.entries.items

use Rattle.std.proofs.Common.{◌≡◌, length, map}
use Rattle.std.specs.Fn.{CalledAt}
use Rattle.std.specs.Map.{keys_of}
use Rattle.rpds_sequence.proofs.Retained.{KeepsOn}
use Rattle.rpds_sequence.proofs.sequence.Sequence.entries_where.Given as goal

abbrev pub invariant-loop-left : goal.invariant-loop-left
invariant-loop-left g l = record {
  callable : goal.F-IsAlwaysCallable g l.keep;
  left : l.left ≡ length l.walk;
  kept : KeepsOn (CalledAt g.F.FnMut) l.fn.keep l.fn.self l.keep (keys_of l.walk) (map (λ e. e.value.key) l.entries.items);
}

abbrev pub decreases-loop-left : goal.decreases-loop-left
decreases-loop-left g l = l.left

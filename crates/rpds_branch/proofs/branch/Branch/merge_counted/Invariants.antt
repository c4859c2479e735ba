use Rattle.std.proofs.Common.{◌≡◌, ◌+◌, ◌*◌, ◌≤◌, ℕ, MatchBool, is_some, length}
use Rattle.rpds_core.specs.Counts.{IsWithin}
use Rattle.rpds_red_black.specs.Logarithm.{most_levels}
use Rattle.rpds_tree.specs.Merges.{IsMergedAt}
use Rattle.rpds_tree.specs.Pairs.{IsAscending, find}
use Rattle.rpds_branch.proofs.branch.Branch.merge_counted.Given as goal

-- a key that is left has ours, and those that were gone over are merged; so far the map got at most a pair for each key, at the work
-- of so many merges of one key
abbrev pub invariant-loop-key : goal.invariant-loop-key
invariant-loop-key g l =
    let R = g.K.Ord.cmp in
    let ours = l.self.current.entries in
    let most = most_levels (length ours + length l.theirs.touched) in
    record {
      ascending : IsAscending R l.key-iterator;
      callable : goal.F-IsAlwaysCallable g l.resolve;
      pairs : (k : g.row.K.Denot) → MatchBool (is_some (find R k l.key-iterator)) (find R k l.current.entries ≡ find R k ours)
          (IsMergedAt R g.V.PartialEq.eq g.F.Fn l.resolve l.theirs.base.entries ours l.theirs.current.entries k (find R k l.current.entries));
      size : length l.current.entries + length l.key-iterator ≤ length ours + length l.theirs.touched;
      spent : (n : ℕ) × ((n + length l.key-iterator ≡ length l.theirs.touched)
          × IsWithin (n * (2 * most_levels (length l.theirs.base.entries) + 3 * most_levels (length l.theirs.current.entries) + 4 * most))
          (n * (8 * most + 2)) l.initial.steps l.steps);
    }

use Rattle.std.proofs.Common.{◌≡◌, ◌+◌, ◌*◌, ◌≤◌, ◌++◌, ℕ, filter, if◌then◌else◌, is_some, length, map}
use Rattle.std.specs.List.Sorted.{IsStrictlySortedBy}
use Rattle.std.specs.Map.{keys_of}
use Rattle.rpds_core.specs.Counts.{IsWithin}
use Rattle.rpds_red_black.specs.Logarithm.{most_levels}
use Rattle.rpds_tree.specs.Merges.{is_conflict_at, merged_at}
use Rattle.rpds_tree.specs.OrderedSet.{find_member}
use Rattle.rpds_tree.specs.Pairs.{IsAscending, find}
use Rattle.rpds_branch.proofs.branch.Branch.merge_ours_counted.Given as goal

-- a key that is left has ours, and those that were gone over are merged; the conflicts, and those that are left, are all; so far the
-- map got at most a pair for each key, at the work of so many merges of one key
abbrev pub invariant-loop-key : goal.invariant-loop-key
invariant-loop-key g l =
    let R = g.K.Ord.cmp in
    let before = l.theirs.base.entries in
    let ours = l.self.current.entries in
    let theirs = l.theirs.current.entries in
    let all = map (λ key. key.now) l.conflicts.items ++ filter (λ j. is_conflict_at R g.V.PartialEq.eq before ours theirs j) (keys_of l.key-iterator) in
    record {
      ascending : IsAscending R l.key-iterator;
      pairs : (k : g.row.K.Denot) → find R k l.current.entries
          ≡ (if is_some (find R k l.key-iterator) then find R k ours else merged_at R g.V.PartialEq.eq before ours theirs k);
      conflicts : (k : g.row.K.Denot) → is_some (find_member R k all) ≡ is_conflict_at R g.V.PartialEq.eq before ours theirs k;
      sorted : IsStrictlySortedBy R all;
      size : length l.current.entries + length l.key-iterator ≤ length ours + length l.theirs.touched;
      spent : (n : ℕ) × ((n + length l.key-iterator ≡ length l.theirs.touched)
          × IsWithin (n * (most_levels (length before) + 2 * (most_levels (length theirs) + most_levels (length ours + length l.theirs.touched))))
          (n * (4 * most_levels (length ours + length l.theirs.touched) + 1)) l.initial.steps l.steps);
    }

use Rattle.std.proofs.Common.{◌≡◌, ◌++◌, filter, if◌then◌else◌, is_some, map}
use Rattle.std.specs.Map.{keys_of}
use Rattle.rpds_red_black.specs.Pairs.{IsAscending, find}
use Rattle.rpds_tree.specs.Differences.{differences}
use Rattle.rpds_tree.specs.Merges.{is_conflict_at, merged_at}
use Rattle.rpds_tree.proofs.map.red_black_tree_map.RedBlackTreeMap.merge_ours.Given as goal

-- a key that is left has ours, and those that were gone over are merged; the conflicts, and those that are left, are all
abbrev pub invariant-loop-change : goal.invariant-loop-change
invariant-loop-change g l =
    let R = g.K.Ord.cmp in
    let same = g.V.PartialEq.eq in
    let base = l.self.entries in
    let ours = l.ours.entries in
    let theirs = l.theirs.entries in
    record {
      ascending : IsAscending R l.change-iterator;
      pairs : (k : g.row.K.Denot) → find R k l.merged.entries
          ≡ (if is_some (find R k l.change-iterator) then find R k ours else merged_at R same base ours theirs k);
      conflicts : map (λ key. key.now) l.conflicts.items ++ filter (λ j. is_conflict_at R same base ours theirs j) (keys_of l.change-iterator)
          ≡ filter (λ j. is_conflict_at R same base ours theirs j) (keys_of (differences R same base theirs));
    }

use Rattle.std.proofs.Common.{MatchBool, is_some, ◌≡◌}
use Rattle.rpds_red_black.specs.Pairs.{IsAscending, find}
use Rattle.rpds_tree.specs.Merges.{IsMergedAt}
use Rattle.rpds_tree.proofs.map.red_black_tree_map.RedBlackTreeMap.merge.Given as goal

-- a key that is left has ours, and those that were gone over are merged
abbrev pub invariant-loop-change : goal.invariant-loop-change
invariant-loop-change g l =
    let R = g.K.Ord.cmp in
    let ours = l.ours.entries in
    record {
      ascending : IsAscending R l.change-iterator;
      callable : goal.F-IsAlwaysCallable g l.resolve;
      pairs : (k : g.row.K.Denot) → MatchBool (is_some (find R k l.change-iterator)) (find R k l.map.entries ≡ find R k ours)
          (IsMergedAt R g.V.PartialEq.eq g.F.Fn l.resolve l.self.entries ours l.theirs.entries k (find R k l.map.entries));
    }

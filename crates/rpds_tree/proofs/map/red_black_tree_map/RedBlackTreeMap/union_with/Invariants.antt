use Rattle.std.proofs.Common.{MatchBool, is_some, ◌≡◌}
use Rattle.rpds_red_black.specs.Pairs.{IsAscending, find}
use Rattle.std.specs.Option.{option_or}
use Rattle.rpds_tree.specs.United.{IsUnitedAt}
use Rattle.rpds_tree.proofs.map.red_black_tree_map.RedBlackTreeMap.union_with.Given as goal

-- a key that is left has the pair of either map, and those that were gone over are combined
abbrev pub invariant-loop-key : goal.invariant-loop-key
invariant-loop-key g l =
    let R = g.K.Ord.cmp in
    let ours = l.self.entries in
    let theirs = l.other.entries in
    record {
      ascending : IsAscending R l.key-iterator;
      callable : goal.F-IsAlwaysCallable g l.combine;
      pairs : (k : g.row.K.Denot) → MatchBool (is_some (find R k l.key-iterator)) (find R k l.map.entries ≡ option_or (find R k ours) (find R k theirs))
          (IsUnitedAt g.F.Fn l.combine (find R k ours) (find R k theirs) (find R k l.map.entries));
    }

use Rattle.rpds_tree.proofs.Words.{◌≡◌, length, differences, IsAscending}
use Rattle.rpds_tree.proofs.map.red_black_tree_map.diff.next_change.Given as goal

abbrev pub invariant-loop-old_key : goal.invariant-loop-old_key
invariant-loop-old_key g l = record {
  old_ascends : IsAscending g.K.Ord.cmp l.old;
  new_ascends : IsAscending g.K.Ord.cmp l.new;
  left : differences g.K.Ord.cmp g.V.PartialEq.eq l.initial.old l.initial.new ≡ differences g.K.Ord.cmp g.V.PartialEq.eq l.old l.new;
}

abbrev pub decreases-loop-old_key : goal.decreases-loop-old_key
decreases-loop-old_key g l = length l.old

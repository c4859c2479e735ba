use Rattle.std.proofs.Common.{filter}
use Rattle.rpds_tree.proofs.Words.{◌≡◌, length, IsStrictlySortedBy, is_gt, find_member}
use Rattle.rpds_tree.proofs.set.red_black_tree_set.relations.meets.Given as goal

abbrev pub invariant-loop-member : goal.invariant-loop-member
invariant-loop-member g l = record {
  sorted : IsStrictlySortedBy g.T.Ord.cmp l.members;
  found : find_member g.T.Ord.cmp l.value l.initial.members ≡ find_member g.T.Ord.cmp l.value l.members;
  rest : filter (λ m. is_gt (g.T.Ord.cmp m l.value)) l.initial.members ≡ filter (λ m. is_gt (g.T.Ord.cmp m l.value)) l.members;
}

abbrev pub decreases-loop-member : goal.decreases-loop-member
decreases-loop-member g l = length l.members

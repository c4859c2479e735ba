use Rattle.rpds_tree.proofs.Words.{◌≡◌, IsStrictlySortedBy, is_subset}
use Rattle.rpds_tree.proofs.set.red_black_tree_set.RedBlackTreeSet.meets_all_in.Given as goal

-- what is left on both sides decides
abbrev pub invariant-loop-member : goal.invariant-loop-member
invariant-loop-member g l = record {
  sorted : IsStrictlySortedBy g.T.Ord.cmp l.member-iterator;
  others_sorted : IsStrictlySortedBy g.T.Ord.cmp l.others;
  same : is_subset g.T.Ord.cmp l.self.members l.other.members ≡ is_subset g.T.Ord.cmp l.member-iterator l.others;
}

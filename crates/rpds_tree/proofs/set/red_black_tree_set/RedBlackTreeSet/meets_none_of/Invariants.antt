use Rattle.rpds_tree.proofs.Words.{◌≡◌, ◌+◌, length, IsStrictlySortedBy, is_disjoint}
use Rattle.rpds_tree.proofs.SideBySide.{pending}
use Rattle.rpds_tree.proofs.set.red_black_tree_set.RedBlackTreeSet.meets_none_of.Given as goal

-- what is left on both sides decides
abbrev pub invariant-loop-next : goal.invariant-loop-next
invariant-loop-next g l = record {
  sorted : IsStrictlySortedBy g.T.Ord.cmp (pending l.next l.members);
  others_sorted : IsStrictlySortedBy g.T.Ord.cmp (pending l.next_other l.others);
  same : is_disjoint g.T.Ord.cmp l.self.members l.other.members ≡ is_disjoint g.T.Ord.cmp (pending l.next l.members) (pending l.next_other l.others);
}

abbrev pub decreases-loop-next : goal.decreases-loop-next
decreases-loop-next g l = length (pending l.next l.members) + length (pending l.next_other l.others)

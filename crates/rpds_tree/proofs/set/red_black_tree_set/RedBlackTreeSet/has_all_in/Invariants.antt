use Rattle.rpds_tree.proofs.Words.{◌≡◌, is_subset}
use Rattle.rpds_tree.proofs.set.red_black_tree_set.RedBlackTreeSet.has_all_in.Given as goal

-- what is left decides
abbrev pub invariant-loop-member : goal.invariant-loop-member
invariant-loop-member g l = is_subset g.T.Ord.cmp l.self.members l.other.members ≡ is_subset g.T.Ord.cmp l.member-iterator l.other.members

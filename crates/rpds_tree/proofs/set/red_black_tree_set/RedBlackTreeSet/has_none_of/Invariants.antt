use Rattle.rpds_tree.proofs.Words.{◌≡◌, is_disjoint}
use Rattle.rpds_tree.proofs.set.red_black_tree_set.RedBlackTreeSet.has_none_of.Given as goal

-- what is left decides
abbrev pub invariant-loop-member : goal.invariant-loop-member
invariant-loop-member g l = is_disjoint g.T.Ord.cmp l.self.members l.other.members ≡ is_disjoint g.T.Ord.cmp l.member-iterator l.other.members

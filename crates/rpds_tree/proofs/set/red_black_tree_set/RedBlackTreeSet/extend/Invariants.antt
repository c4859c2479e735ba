use Rattle.std.proofs.Common.{◌≡◌}
use Rattle.rpds_tree.specs.OrderedSet.{put_members}
use Rattle.rpds_tree.proofs.set.red_black_tree_set.RedBlackTreeSet.extend.Given as goal

abbrev pub invariant-loop-value : goal.invariant-loop-value
invariant-loop-value g l =
    (goal.iterator-loop-value g).can_next l.value-iterator
    × (goal.iterator-loop-value g).is_finite l.value-iterator
    × (l.longer.members ≡ put_members g.T.Ord.cmp l.self.members l.yielded)

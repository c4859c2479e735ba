use Rattle.std.proofs.Common.{◌≡◌, map}
use Rattle.std.specs.Map.Iter.{deref_pair}
use Rattle.rpds_red_black.specs.Pairs.{put_all}
use Rattle.rpds_tree.proofs.map.red_black_tree_map.RedBlackTreeMap.extend_copied.Given as goal

abbrev pub invariant-loop-key : goal.invariant-loop-key
invariant-loop-key g l =
    (goal.iterator-loop-key g).can_next l.key-iterator
    × (goal.iterator-loop-key g).is_finite l.key-iterator
    × (l.longer.entries ≡ put_all g.K.Ord.cmp l.self.entries (map deref_pair l.yielded))

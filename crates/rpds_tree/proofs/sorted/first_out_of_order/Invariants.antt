use Rattle.rpds_tree.proofs.Words.{◌≡◌, ◌+◌, map, drop, keys_of, first_out_of_order}
use Rattle.rpds_tree.proofs.Rising.{first_out_of_order_after}
use Rattle.rpds_tree.proofs.sorted.first_out_of_order.Given as goal

-- the keys that are left are first out of order where all of them are
abbrev pub invariant-loop-passed : goal.invariant-loop-passed
invariant-loop-passed g l =
    first_out_of_order_after g.K.Ord.cmp l.last (l.passed + 1) (keys_of (map g.X.SortedItem.pair (drop l.passed l.rest)))
    ≡ first_out_of_order g.K.Ord.cmp (keys_of (map g.X.SortedItem.pair l.items))

use Rattle.rpds_tree.proofs.Words.{◌≡◌, ◌≤◌, ◌++◌, List, drop, length, items_where_true, most_levels}
use Rattle.rpds_tree.proofs.Chosen.{AreChosen}
use Rattle.rpds_tree.proofs.map.red_black_tree_map.RedBlackTreeMap.without_others.Given as goal

-- the map has what stays of the pairs before the rest, and the rest
abbrev pub invariant-loop-stays : goal.invariant-loop-stays
invariant-loop-stays g l =
    (got : List (g.row.K.Denot × g.row.V.Denot))
    × (rest : List (g.row.K.Denot × g.row.V.Denot))
    × (l.left.entries ≡ got ++ rest)
    × AreChosen got (drop l.stays-index l.keeps) rest (items_where_true l.keeps l.self.entries)
    × (l.position ≡ length got)
    × (l.position ≤ l.stays-index)
    × (l.left.depth ≤ most_levels (length l.left.entries))

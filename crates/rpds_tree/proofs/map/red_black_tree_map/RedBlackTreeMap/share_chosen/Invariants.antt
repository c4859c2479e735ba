use Rattle.rpds_tree.proofs.Words.{drop, map, items_where_true, pair_of}
use Rattle.rpds_tree.proofs.Chosen.{AreChosen}
use Rattle.rpds_tree.proofs.map.red_black_tree_map.RedBlackTreeMap.share_chosen.Given as goal

abbrev pub invariant-loop-stays : goal.invariant-loop-stays
invariant-loop-stays g l = AreChosen (map (λ e. pair_of e.value) l.chosen.items) (drop l.stays-index l.keeps) l.walk (items_where_true l.keeps l.self.entries)

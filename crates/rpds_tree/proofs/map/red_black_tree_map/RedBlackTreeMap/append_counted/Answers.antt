use Rattle.rpds_tree.proofs.Rising.{rises}
use Rattle.rpds_tree.proofs.map.red_black_tree_map.RedBlackTreeMap.append_counted.Goals as goal

pub append_unchecked-requires : goal.append_unchecked-requires
append_unchecked-requires g c = rises g.K.Ord.cmp g.met.K.Ord.total _ (c.is_out_of_order.ensures.no c.if-is_out_of_order.false)

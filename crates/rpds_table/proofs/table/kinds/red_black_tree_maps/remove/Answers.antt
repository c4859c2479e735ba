use Rattle.std.proofs.Common.{refl}
use Rattle.rpds_table.proofs.OrderedCounts.{empty_unspent}
use Rattle.rpds_table.proofs.table.kinds.red_black_tree_maps.remove.Goals as goal

pub returns-then-is_empty-clause-counts : goal.returns-then-is_empty-clause-counts
returns-then-is_empty-clause-counts g c = empty_unspent c.args.map.now.entries _ _ _ (c.if-is_empty.ensures.0 refl)

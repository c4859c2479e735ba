use Rattle.std.proofs.Common.{rules}
use Rattle.rpds_table.proofs.table.kinds.red_black_tree_maps.write_key.Goals as goal

pub returns-in-Ok-clause-done : goal.returns-in-Ok-clause-done
returns-in-Ok-clause-done g c = search rules

use Rattle.std.proofs.Common.{rules}
use Rattle.rpds_table.proofs.table.kinds.hash_trie_sets.remove.Goals as goal

pub returns-then-is_empty : goal.returns-then-is_empty
returns-then-is_empty g c = search rules

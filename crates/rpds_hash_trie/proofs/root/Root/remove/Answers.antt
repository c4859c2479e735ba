use Rattle.std.proofs.Common.{rules}
use Rattle.rpds_hash_trie.proofs.root.Root.remove.Goals as goal

pub returns-in-Absent-clause-makes : goal.returns-in-Absent-clause-makes
returns-in-Absent-clause-makes g c = search rules

use Rattle.std.proofs.Common.{rules}
use Rattle.rpds_hash_trie.proofs.node.Node.only_entry.Goals as goal

pub returns-in-Leaf : goal.returns-in-Leaf
returns-in-Leaf g c = search rules

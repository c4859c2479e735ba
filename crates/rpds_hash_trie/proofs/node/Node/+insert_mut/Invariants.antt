use Rattle.std.proofs.Common.{◌-◌}
use Rattle.rpds_hash_trie.specs.HashTrie.{level_count}
use Rattle.rpds_hash_trie.proofs.node.Node.+insert_mut.Given as goal

abbrev pub decreases-insert_mut : goal.decreases-insert_mut
decreases-insert_mut g l = level_count l.self.now.bits - l.self.now.depth

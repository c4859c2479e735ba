use Rattle.std.proofs.Common.{◌-◌}
use Rattle.rpds_hash_trie.specs.HashTrie.{level_count}
use Rattle.rpds_hash_trie.proofs.node.Node.+remove_mut.Given as goal

abbrev pub decreases-remove_mut : goal.decreases-remove_mut
decreases-remove_mut g l = level_count l.self.now.bits - l.self.now.depth

use Rattle.std.proofs.Common.{◌-◌}
use Rattle.rpds_hash_trie.specs.HashTrie.{level_count}
use Rattle.rpds_hash_trie.proofs.node.Node.+remove.Given as goal

abbrev pub decreases-remove : goal.decreases-remove
decreases-remove g l = level_count l.self.now.bits - l.self.now.depth

use Rattle.std.proofs.Common.{◌-◌}
use Rattle.rpds_hash_trie.specs.HashTrie.{level_count}
use Rattle.rpds_hash_trie.proofs.node.Node.+join.Given as goal

abbrev pub decreases-join : goal.decreases-join
decreases-join g l = level_count l.bits - l.depth

use Rattle.std.proofs.Common.{◌<◌, arith}
use Rattle.rpds_hash_trie.specs.HashTrie.{level_count}
use Rattle.rpds_hash_trie.proofs.node.Node.compressed.Goals as goal

pub leaf-requires : goal.leaf-requires
leaf-requires g c = let l : c.args.depth < level_count c.args.bits = c.requires.left in record { bits_in = c.requires.bits_in; deep = omega arith }

use Rattle.std.proofs.Common.{◌∷◌, map, take}
use Rattle.rpds_hash_trie.proofs.Words.{stored}
use Rattle.rpds_hash_trie.specs.HashUnion.{IsUnited, node_or}
use Rattle.rpds_hash_trie.proofs.node.Node.with_colliding.Given as goal

abbrev pub invariant-loop-entry : goal.invariant-loop-entry
invariant-loop-entry g l = IsUnited g.K.PartialEq.eq l.self (stored l.collision.front ∷ map stored (take l.entry-index l.others)) (node_or l.self l.more)
    l.fn.common l.common

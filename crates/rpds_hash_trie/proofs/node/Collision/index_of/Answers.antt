use Rattle.rpds_hash_trie.proofs.Words.{arith, length-map, map, matches, stored}
use Rattle.rpds_hash_trie.proofs.Collisions.{index_le}
use Rattle.rpds_hash_trie.proofs.node.Collision.index_of.Goals as goal

pub overflow_add-result : goal.overflow_add-result
overflow_add-result g c =
    let xs = c.deref.result.now in
    omega (arith, c.index_in.ensures, index_le (matches g.Q.HashKey.same (g.Q.HashKey.seen c.args.key) c.args.hash) (map stored xs), length-map xs stored, c.deref.ensures.len)

use Rattle.std.proofs.Common.{◌-◌}
use Rattle.rpds_hash_trie.specs.HashTrie.{level_count}
use Rattle.rpds_hash_trie.proofs.LookUp.{IsOnWay}
use Rattle.rpds_hash_trie.proofs.node.Node.get.Given as goal

abbrev pub invariant-loop-node : goal.invariant-loop-node
invariant-loop-node g l = IsOnWay g.Q.HashKey.same (g.Q.HashKey.seen l.key) l.hash l.self l.node l.hash_left l.initial.steps l.steps

abbrev pub decreases-loop-node : goal.decreases-loop-node
decreases-loop-node g l = level_count l.node.bits - l.node.depth

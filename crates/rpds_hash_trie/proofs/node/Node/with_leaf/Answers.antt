use Rattle.rpds_hash_trie.proofs.Words.{arith}
use Rattle.rpds_hash_trie.proofs.Digits.{level_count_le}
use Rattle.rpds_hash_trie.proofs.NodeInsert.{branch_leaf}
use Rattle.rpds_hash_trie.proofs.node.Node.with_leaf.Goals as goal

pub overflow_add-depth : goal.overflow_add-depth
overflow_add-depth g c = omega (arith, c.requires.sound.left, level_count_le c.args.bits)

pub leaf-requires : goal.leaf-requires
leaf-requires g c = branch_leaf c.requires.sound

pub with_child-requires-clause-sound : goal.with_child-requires-clause-sound
with_child-requires-clause-sound g c = rw c.in_ok-leaf.ensures.ok c.requires.sound

pub returns-clause-ok : goal.returns-clause-ok
returns-clause-ok g c = rw c.in_ok-leaf.ensures.ok at c.with_child.ensures.ok

use Rattle.rpds_hash_trie.specs.HashNode.{stored}
use Rattle.rpds_hash_trie.proofs.Collisions.{removed_other}
use Rattle.rpds_hash_trie.proofs.node.Collision.remove.Goals as goal

pub returns-else-at-eq0 : goal.returns-else-at-eq0
returns-else-at-eq0 g c = rw c.remove-else-at-eq0.ensures.items (removed_other (stored c.args.self.now.front) c.args.self.now.others.items c.args.at c.if-at-eq0.false)

use Rattle.rpds_hash_trie.proofs.UnitedNodes.{depth_within}
use Rattle.rpds_hash_trie.proofs.node.Node.hash_left.Goals as goal

pub left_at-requires-clause-deep : goal.left_at-requires-clause-deep
left_at-requires-clause-deep g c = depth_within c.self.inside.bits c.self.inside.depth c.self.inside.kind c.self.view_is c.prove_sound.ensures.deep

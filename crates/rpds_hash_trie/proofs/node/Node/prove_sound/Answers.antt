use Rattle.rpds_hash_trie.proofs.Words.{subst, IsSound}
use Rattle.rpds_hash_trie.proofs.Order.{sound_of}
use Rattle.rpds_hash_trie.proofs.node.Node.prove_sound.Goals as goal

pub returns : goal.returns
returns g c = subst IsSound c.self.view_is (sound_of c.self.inside.bits c.self.inside.depth c.self.inside.kind c.self.invariant)

use Rattle.rpds_hash_trie.specs.HashedMap.{key_hash}
use Rattle.rpds_hash_trie.proofs.Distinct.{hashed_of}
use Rattle.rpds_hash.proofs.map.hash_trie_map.HashTrieMap.prove_sound.Goals as goal

pub returns : goal.returns
returns g c =
    hashed_of g.K.PartialEq.eq (key_hash g.H.BuildHasher g.H.Hasher.Hasher g.K.Hash.hash_input) g.met.K.Eq.laws c.self.inside.hasher c.self.inside.size c.self.inside.root c.args.self.now
    c.self.invariant c.prove_sound.ensures.bits_in c.prove_sound.ensures.in_order c.self.view_is

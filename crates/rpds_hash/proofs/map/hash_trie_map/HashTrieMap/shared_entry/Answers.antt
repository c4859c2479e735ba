use Rattle.rpds_hash.proofs.Words.{◌∙◌, IfOk-weaker, key_hash}
use Rattle.rpds_hash_trie.proofs.MapGet.{IsLook, look_of, form_hash}
use Rattle.rpds_hash.proofs.map.hash_trie_map.HashTrieMap.shared_entry.Given.{Over}
use Rattle.rpds_hash.proofs.map.hash_trie_map.HashTrieMap.shared_entry.Goals as goal
use Rattle.rpds_hash.proofs.map.hash_trie_map.HashTrieMap.shared_entry.Goals.{After-hash-hash}

look : (g : Over) (c : After-hash-hash g) → IsLook (key_hash g.H.BuildHasher g.H.Hasher.Hasher g.K.Hash.hash_input) g.Q.HashKey.same (g.Q.HashKey.seen c.args.key)
    (λ x. key_hash g.H.BuildHasher g.H.Hasher.Hasher g.Q.Hash.hash_input x c.args.key) c.hash-hash.result c.self.inside.root c.args.self.now
look g c = look_of (record {
  law = g.met.K.Eq.laws;
  hashed = (λ k y. form_hash g.H.BuildHasher g.H.Hasher.Hasher g.K.Hash.hash_input _ c.self.inside.hasher k ((g.met.Q.HashKey.tests c.args.key).hashed k y));
  alike = (g.met.Q.HashKey.tests c.args.key).alike;
  map_is = c.self.invariant;
  view = c.self.view_is;
  hash_is = c.hash-hash.ensures;
})

pub shared_entry-requires : goal.shared_entry-requires
shared_entry-requires g c = (look g (goal.at.shared_entry-requires g c).After-hash-hash).once

pub returns : goal.returns
returns g c =
    let l = look g (goal.at.returns g c).After-hash-hash in
    IfOk-weaker c.shared_entry.result _ _ (λ entry is. is ∙ l.tells) c.shared_entry.ensures

use Rattle.rpds_hash_trie.specs.HashedMap.{key_hash}
use Rattle.rpds_hash_trie.proofs.MapGet.{IsSeenMap, look_of, path_made, form_hash}
use Rattle.rpds_hash.proofs.MapRemove.{absent, shrunk}
use Rattle.rpds_hash.proofs.map.hash_trie_map.HashTrieMap.shrunk.Given.{Over}
use Rattle.rpds_hash.proofs.map.hash_trie_map.HashTrieMap.shrunk.Goals as goal
use Rattle.rpds_hash.proofs.map.hash_trie_map.HashTrieMap.shrunk.Goals.{After-hash-hash}

seen : (g : Over) (c : After-hash-hash g) → IsSeenMap g.K.PartialEq.eq (key_hash g.H.BuildHasher g.H.Hasher.Hasher g.K.Hash.hash_input) g.Q.HashKey.same
    (g.Q.HashKey.seen c.args.key) (λ x. key_hash g.H.BuildHasher g.H.Hasher.Hasher g.Q.Hash.hash_input x c.args.key) c.hash-hash.result c.self.inside.hasher c.self.inside.size c.self.inside.root c.args.self.now
seen g c = record {
  law = g.met.K.Eq.laws;
  hashed = (λ k y. form_hash g.H.BuildHasher g.H.Hasher.Hasher g.K.Hash.hash_input _ c.self.inside.hasher k ((g.met.Q.HashKey.tests c.args.key).hashed k y));
  alike = (g.met.Q.HashKey.tests c.args.key).alike;
  map_is = c.self.invariant;
  view = c.self.view_is;
  hash_is = c.hash-hash.ensures;
}

pub remove-requires : goal.remove-requires
remove-requires g c = (look_of (seen g (goal.at.remove-requires g c).After-hash-hash)).once

pub returns-in_err-remove-clause-made : goal.returns-in_err-remove-clause-made
returns-in_err-remove-clause-made g c = path_made (seen g (goal.at.returns-in_err-remove-clause-made g c).After-hash-hash) 1 c.remove.ensures.made

pub returns-in-None-clause-ok : goal.returns-in-None-clause-ok
returns-in-None-clause-ok g c = absent (seen g (goal.at.returns-in-None-clause-ok g c).After-hash-hash) (rw c.in-None.is at c.in_ok-remove.ensures.ok)

pub returns-in-None-clause-made : goal.returns-in-None-clause-made
returns-in-None-clause-made g c = path_made (seen g (goal.at.returns-in-None-clause-made g c).After-hash-hash) 1 c.remove.ensures.made

pub returns-in-Some-clause-ok : goal.returns-in-Some-clause-ok
returns-in-Some-clause-ok g c = shrunk (seen g (goal.at.returns-in-Some-clause-ok g c).After-hash-hash) c.in-Some.root (rw c.in-Some.is at c.in_ok-remove.ensures.ok)

pub returns-in-Some-clause-made : goal.returns-in-Some-clause-made
returns-in-Some-clause-made g c = path_made (seen g (goal.at.returns-in-Some-clause-made g c).After-hash-hash) 1 c.remove.ensures.made

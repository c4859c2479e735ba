use Rattle.rpds_hash.proofs.Words.{◌∙◌, sym, subst, IsSome, key_hash}
use Rattle.rpds_hash_trie.proofs.MapGet.{IsLook, IsSeenMap, look_of, form_hash, some_from}
use Rattle.rpds_hash.proofs.map.hash_trie_map.HashTrieMap.get_counted.Given.{Over}
use Rattle.rpds_hash.proofs.map.hash_trie_map.HashTrieMap.get_counted.Goals as goal
use Rattle.rpds_hash.proofs.map.hash_trie_map.HashTrieMap.get_counted.Goals.{After-hash-hash}

seen : (g : Over) (c : After-hash-hash g) → IsSeenMap g.K.PartialEq.eq (key_hash g.H.BuildHasher g.H.Hasher.Hasher g.K.Hash.hash_input) g.Q.HashKey.same
    (g.Q.HashKey.seen c.args.key) (λ x. key_hash g.H.BuildHasher g.H.Hasher.Hasher g.Q.Hash.hash_input x c.args.key) c.hash-hash.result c.self.inside.hasher c.self.inside.size c.self.inside.root c.args.self.now
seen g c = record {
  law = g.met.K.Eq.laws;
  hashed = (λ k y. form_hash g.H.BuildHasher g.H.Hasher.Hasher g.K.Hash.hash_input _ c.self.inside.hasher k ((g.met.Q.HashKey.tests c.args.key).hashed k y));
  alike = (g.met.Q.HashKey.tests c.args.key).alike;
  map_is = c.self.invariant;
  view = c.self.view_is;
  hash_is = c.hash-hash.ensures;
}

look : (g : Over) (c : After-hash-hash g) → IsLook (key_hash g.H.BuildHasher g.H.Hasher.Hasher g.K.Hash.hash_input) g.Q.HashKey.same (g.Q.HashKey.seen c.args.key)
    (λ x. key_hash g.H.BuildHasher g.H.Hasher.Hasher g.Q.Hash.hash_input x c.args.key) c.hash-hash.result c.self.inside.root c.args.self.now
look g c = look_of (seen g c)

pub get-requires : goal.get-requires
get-requires g c = (look g (goal.at.get-requires g c).After-hash-hash).once

pub returns-clause-found : goal.returns-clause-found
returns-clause-found g c = c.get.ensures.found ∙ (look g (goal.at.returns-clause-found g c).After-hash-hash).tells

pub returns-clause-visited : goal.returns-clause-visited
returns-clause-visited g c =
    let l = look g (goal.at.returns-clause-visited g c).After-hash-hash in
    λ some. rw (← l.reaches) (c.get.ensures.counts.visited (some_from (λ e. e.1) _ (subst IsSome (sym l.tells) some)))

pub returns-clause-visited_most : goal.returns-clause-visited_most
returns-clause-visited_most g c = rw (← (look g (goal.at.returns-clause-visited_most g c).After-hash-hash).levels) c.get.ensures.counts.visited_most

pub returns-clause-matched : goal.returns-clause-matched
returns-clause-matched g c = rw (← (look g (goal.at.returns-clause-matched g c).After-hash-hash).counts) c.get.ensures.counts.matched_most

pub returns-clause-compares : goal.returns-clause-compares
returns-clause-compares g c =
    let l = look g (goal.at.returns-clause-compares g c).After-hash-hash in
    λ some. c.get.ensures.counts.compares (some_from (λ e. e.1) _ (subst IsSome (sym l.tells) some))

use Rattle.std.proofs.Common.{rules, refl}
use Rattle.rpds_hash.proofs.Words.{sym, ◌∙◌, key_hash}
use Rattle.rpds_hash_trie.proofs.MapGet.{IsSeenMap, look_of, form_hash}
use Rattle.rpds_hash.proofs.MapRemove.{told, left_view, less_map, same_map, stays_none, unchanged}
use Rattle.rpds_hash.proofs.map.hash_trie_map.HashTrieMap.remove_mut.Given.{Over}
use Rattle.rpds_hash.proofs.map.hash_trie_map.HashTrieMap.remove_mut.Goals as goal
use Rattle.rpds_hash.proofs.map.hash_trie_map.HashTrieMap.remove_mut.Goals.{After-hash-hash}

seen : (g : Over) (c : After-hash-hash g) → IsSeenMap g.K.PartialEq.eq (key_hash g.H.BuildHasher g.H.Hasher.Hasher g.K.Hash.hash_input) g.Q.HashKey.same
    (g.Q.HashKey.seen c.args.key) (λ x. key_hash g.H.BuildHasher g.H.Hasher.Hasher g.Q.Hash.hash_input x c.args.key) c.hash-hash.result c.self.inside.hasher c.self.inside.size c.self.inside.root c.args.self.now
seen g c = record {
  law = g.met.K.Eq.laws;
  hashed = (λ k y. form_hash g.H.BuildHasher g.H.Hasher.Hasher g.K.Hash.hash_input _ c.self.inside.hasher k ((g.met.Q.HashKey.tests c.args.key).hashed k y));
  alike = (g.met.Q.HashKey.tests c.args.key).alike;
  map_is = c.self.invariant;
  view = c.self.view_is;
  hash_is = c.hash-hash.ensures;
}

pub remove_mut-requires : goal.remove_mut-requires
remove_mut-requires g c = (look_of (seen g (goal.at.remove_mut-requires g c).After-hash-hash)).once

pub invariant_of-self-then-there : goal.invariant_of-self-then-there
invariant_of-self-then-there g c =
    less_map (seen g (goal.at.invariant_of-self-then-there g c).After-hash-hash) c.remove_mut.new.self c.in_ok-there.ensures.ok (sym c.in_ok-there.ensures.found ∙ c.if-there.true)

pub invariant_of-self-else-there : goal.invariant_of-self-else-there
invariant_of-self-else-there g c =
    same_map (seen g (goal.at.invariant_of-self-else-there g c).After-hash-hash) c.remove_mut.new.self c.in_ok-there.ensures.ok (sym c.in_ok-there.ensures.found ∙ c.if-there.false)

pub returns-then-there-clause-found : goal.returns-then-there-clause-found
returns-then-there-clause-found g c = told (seen g (goal.at.returns-then-there-clause-found g c).After-hash-hash) c.in_ok-there.there c.in_ok-there.ensures.found

pub returns-then-there-clause-ok : goal.returns-then-there-clause-ok
returns-then-there-clause-ok g c = left_view (seen g (goal.at.returns-then-there-clause-ok g c).After-hash-hash) c.remove_mut.new.self c.in_ok-there.ensures.ok

pub returns-else-there-clause-found : goal.returns-else-there-clause-found
returns-else-there-clause-found g c = told (seen g (goal.at.returns-else-there-clause-found g c).After-hash-hash) c.in_ok-there.there c.in_ok-there.ensures.found

pub returns-else-there-clause-ok : goal.returns-else-there-clause-ok
returns-else-there-clause-ok g c = left_view (seen g (goal.at.returns-else-there-clause-ok g c).After-hash-hash) c.remove_mut.new.self c.in_ok-there.ensures.ok

pub returns-else-there-clause-absent : goal.returns-else-there-clause-absent
returns-else-there-clause-absent g c =
    let s = seen g (goal.at.returns-else-there-clause-absent g c).After-hash-hash in
    let no = told s c.in_ok-there.there c.in_ok-there.ensures.found in
    λ _. left_view s c.remove_mut.new.self c.in_ok-there.ensures.ok ∙ sym (unchanged g.Q.HashKey.same (g.Q.HashKey.seen c.args.key) c.args.self.now (stays_none _ (sym no ∙ c.if-there.false)))

pub returns-then-self-eq0-clause-empty : goal.returns-then-self-eq0-clause-empty
returns-then-self-eq0-clause-empty g c = λ none. refl

pub invariant_of-self : goal.invariant_of-self
invariant_of-self g c = search rules

pub returns-in_err-there-clause-err : goal.returns-in_err-there-clause-err
returns-in_err-there-clause-err g c = search rules

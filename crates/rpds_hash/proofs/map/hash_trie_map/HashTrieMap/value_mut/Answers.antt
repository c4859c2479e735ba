use Rattle.rpds_hash.proofs.Words.{◌∙◌, sym, ap, option_map, told_of, key_hash, matches}
use Rattle.rpds_core.proofs.ValueLends.{read_same}
use Rattle.rpds_hash_trie.proofs.MapGet.{IsSeenMap, look_of, form_hash}
use Rattle.rpds_hash.proofs.MapValueMut.{map_sound, map_written, map_kept, value_told, empty_size}
use Rattle.rpds_hash.proofs.map.hash_trie_map.HashTrieMap.value_mut.Given.{Over}
use Rattle.rpds_hash.proofs.map.hash_trie_map.HashTrieMap.value_mut.Goals as goal
use Rattle.rpds_hash.proofs.map.hash_trie_map.HashTrieMap.value_mut.Goals.{After-hash-hash}

seen : (g : Over) (c : After-hash-hash g) → IsSeenMap g.K.PartialEq.eq (key_hash g.H.BuildHasher g.H.Hasher.Hasher g.K.Hash.hash_input) g.Q.HashKey.same
    (g.Q.HashKey.seen c.args.key) (λ x. key_hash g.H.BuildHasher g.H.Hasher.Hasher g.Q.Hash.hash_input x c.args.key) c.hash-hash.result c.self.inside.hasher c.self.inside.size c.self.inside.root c.args.self.now
seen g c = record {
  law = g.met.K.Eq.laws;
  hashed = (λ k y. form_hash g.H.BuildHasher g.H.Hasher.Hasher g.K.Hash.hash_input _ c.self.inside.hasher k ((g.met.Q.HashKey.tests c.args.key).hashed k y));
  alike = (g.met.Q.HashKey.tests c.args.key).alike;
  map_is = c.self.invariant;
  view = c.self.view_is;
  hash_is = c.hash-hash.ensures;
}

pub value_mut-requires-clause-once : goal.value_mut-requires-clause-once
value_mut-requires-clause-once g c = (look_of (seen g (goal.at.value_mut-requires-clause-once g c).After-hash-hash)).once

pub invariant_of-self-lent : goal.invariant_of-self-lent
invariant_of-self-lent g c =
    let b = c.value_mut.follows in
    λ r. (
      λ w. map_sound (matches g.Q.HashKey.same (g.Q.HashKey.seen c.args.key) c.hash-hash.result) w g.K.PartialEq.eq _ c.self.inside.size c.self.inside.root (b.lender w) (b.holds w).1 c.self.invariant,
      rw b.holds-at-none c.self.invariant,
    )

pub returns : goal.returns
returns g c =
    let s = seen g (goal.at.returns g c).After-hash-hash in
    let b = c.value_mut.follows in (
      read_same _ c.value_mut.result _ _ _ _ (λ ok w. map_written s w (b.lender w) ((b.holds w).0 ok)) (map_kept s b.lender-at-none b.holds-at-none),
      record {
        writes_back = tt;
        returned = told_of (ap (option_map (λ p. p.1)) (sym (look_of s).tells) ∙ value_told _) c.value_mut.result c.value_mut.ensures.returned;
        empty = λ none. absurd (c.if-self-eq0.false (empty_size g.K.PartialEq.eq _ c.self.inside.hasher c.self.inside.size c.self.inside.root c.args.self.now c.self.invariant c.self.view_is none));
      },
    )

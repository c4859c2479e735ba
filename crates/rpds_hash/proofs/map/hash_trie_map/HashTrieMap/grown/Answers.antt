use Rattle.rpds_hash_trie.specs.HashedMap.{key_hash}
use Rattle.rpds_core.proofs.Counts.{made_same}
use Rattle.rpds_hash_trie.proofs.MapInsert.{grown_fresh, grown_again}
use Rattle.rpds_hash_trie.proofs.MapGet.{IsSeenMap, look_of, none_seen, path_made, alike_keys, seen_by_key}
use Rattle.rpds_hash.proofs.map.hash_trie_map.HashTrieMap.grown.Given.{Over}
use Rattle.rpds_hash.proofs.map.hash_trie_map.HashTrieMap.grown.Goals as goal
use Rattle.rpds_hash.proofs.map.hash_trie_map.HashTrieMap.grown.Goals.{After-hash-key_hash}

seen : (g : Over) (c : After-hash-key_hash g) → IsSeenMap g.K.PartialEq.eq (key_hash g.H.BuildHasher g.H.Hasher.Hasher g.K.Hash.hash_input) g.K.PartialEq.eq c.args.key
    (λ x. key_hash g.H.BuildHasher g.H.Hasher.Hasher g.K.Hash.hash_input x c.args.key) c.hash-key_hash.result c.self.inside.hasher c.self.inside.size c.self.inside.root c.args.self.now
seen g c = seen_by_key (key_hash g.H.BuildHasher g.H.Hasher.Hasher g.K.Hash.hash_input) c.args.key g.met.K.Eq.laws
    (alike_keys g.H.BuildHasher g.H.Hasher.Hasher g.K.Hash.hash_input g.K.PartialEq.eq g.met.K.Hash.respects_eq c.self.inside.hasher) c.self.invariant c.self.view_is c.hash-key_hash.ensures

pub returns-in_err-more-clause-made : goal.returns-in_err-more-clause-made
returns-in_err-more-clause-made g c = made_same _ _

pub returns-in_err-more-clause-first : goal.returns-in_err-more-clause-first
returns-in_err-more-clause-first g c = λ none. made_same _ _

pub returns-in_err-entry-clause-made : goal.returns-in_err-entry-clause-made
returns-in_err-entry-clause-made g c = made_same _ _

pub returns-in_err-entry-clause-first : goal.returns-in_err-entry-clause-first
returns-in_err-entry-clause-first g c = λ none. made_same _ _

pub insert-requires : goal.insert-requires
insert-requires g c = rw c.in_ok-entry.ensures.ok (look_of (seen g (goal.at.insert-requires g c).After-hash-key_hash)).once

pub returns-in_err-root-clause-made : goal.returns-in_err-root-clause-made
returns-in_err-root-clause-made g c = path_made (seen g (goal.at.returns-in_err-root-clause-made g c).After-hash-key_hash) 2 (rw c.in_ok-entry.ensures.ok at c.insert.ensures.made)

pub returns-in_err-root-clause-first : goal.returns-in_err-root-clause-first
returns-in_err-root-clause-first g c = λ none. c.insert.ensures.first (none_seen (seen g (goal.at.returns-in_err-root-clause-first g c).After-hash-key_hash) none)

pub returns-then-fresh-clause-ok : goal.returns-then-fresh-clause-ok
returns-then-fresh-clause-ok g c =
    let put = rw c.in_ok-entry.ensures.ok at c.in_ok-root.ensures.ok in
    rw c.in_ok-more.ensures.sum
    (grown_fresh c.args.value (seen g (goal.at.returns-then-fresh-clause-ok g c).After-hash-key_hash) c.in_ok-root.root put.bits put.entries c.insert.new.fresh put.fresh c.if-fresh.true)

pub returns-then-fresh-clause-made : goal.returns-then-fresh-clause-made
returns-then-fresh-clause-made g c = path_made (seen g (goal.at.returns-then-fresh-clause-made g c).After-hash-key_hash) 2 (rw c.in_ok-entry.ensures.ok at c.insert.ensures.made)

pub returns-then-fresh-clause-first : goal.returns-then-fresh-clause-first
returns-then-fresh-clause-first g c = λ none. c.insert.ensures.first (none_seen (seen g (goal.at.returns-then-fresh-clause-first g c).After-hash-key_hash) none)

pub returns-else-fresh-clause-ok : goal.returns-else-fresh-clause-ok
returns-else-fresh-clause-ok g c =
    let put = rw c.in_ok-entry.ensures.ok at c.in_ok-root.ensures.ok in
    grown_again c.args.value (seen g (goal.at.returns-else-fresh-clause-ok g c).After-hash-key_hash) c.in_ok-root.root put.bits put.entries c.insert.new.fresh put.fresh c.if-fresh.false

pub returns-else-fresh-clause-made : goal.returns-else-fresh-clause-made
returns-else-fresh-clause-made g c = path_made (seen g (goal.at.returns-else-fresh-clause-made g c).After-hash-key_hash) 2 (rw c.in_ok-entry.ensures.ok at c.insert.ensures.made)

pub returns-else-fresh-clause-first : goal.returns-else-fresh-clause-first
returns-else-fresh-clause-first g c = λ none. c.insert.ensures.first (none_seen (seen g (goal.at.returns-else-fresh-clause-first g c).After-hash-key_hash) none)

use Rattle.rpds_hash.proofs.Words.{Entry, ap, key_hash, ◌∙◌}
use Rattle.rpds_hash_trie.proofs.MapInsert.{put_done, added_map, again_map}
use Rattle.rpds_hash_trie.proofs.MapGet.{IsSeenMap, look_of, alike_keys, seen_by_key}
use Rattle.rpds_hash_trie.proofs.FromIter.{put_longer}
use Rattle.rpds_hash_trie.proofs.KeyLaws.{find_after}
use Rattle.rpds_hash.proofs.map.hash_trie_map.HashTrieMap.insert_shared_mut.Given.{Over}
use Rattle.rpds_hash.proofs.map.hash_trie_map.HashTrieMap.insert_shared_mut.Goals as goal
use Rattle.rpds_hash.proofs.map.hash_trie_map.HashTrieMap.insert_shared_mut.Goals.{After-hash-key_hash}

seen : (g : Over) (c : After-hash-key_hash g) → IsSeenMap g.K.PartialEq.eq (key_hash g.H.BuildHasher g.H.Hasher.Hasher g.K.Hash.hash_input) g.K.PartialEq.eq c.args.entry.value.key
    (λ x. key_hash g.H.BuildHasher g.H.Hasher.Hasher g.K.Hash.hash_input x c.args.entry.value.key) c.hash-key_hash.result c.self.inside.hasher c.self.inside.size c.self.inside.root c.args.self.now
seen g c = seen_by_key (key_hash g.H.BuildHasher g.H.Hasher.Hasher g.K.Hash.hash_input) c.args.entry.value.key g.met.K.Eq.laws
    (alike_keys g.H.BuildHasher g.H.Hasher.Hasher g.K.Hash.hash_input g.K.PartialEq.eq g.met.K.Hash.respects_eq c.self.inside.hasher) c.self.invariant c.self.view_is
    (c.hash-key_hash.ensures ∙ ap (λ (e : Entry g.row.K.Denot g.row.V.Denot). key_hash g.H.BuildHasher g.H.Hasher.Hasher g.K.Hash.hash_input c.self.inside.hasher e.key) c.deref.ensures)

pub insert_mut-requires : goal.insert_mut-requires
insert_mut-requires g c = (look_of (seen g (goal.at.insert_mut-requires g c).After-hash-key_hash)).once

pub invariant_of-self-then-branch : goal.invariant_of-self-then-branch
invariant_of-self-then-branch g c =
    let put = c.in_ok-insert_mut.ensures.ok in
    rw c.in_ok-more.ensures.sum
    (added_map c.args.entry.value.value (seen g (goal.at.invariant_of-self-then-branch g c).After-hash-key_hash) c.insert_mut.new.self put.bits put.entries c.in_ok-insert_mut.field-0 put.fresh c.if-branch.true)

pub invariant_of-self-else-branch : goal.invariant_of-self-else-branch
invariant_of-self-else-branch g c =
    let put = c.in_ok-insert_mut.ensures.ok in
    again_map c.args.entry.value.value (seen g (goal.at.invariant_of-self-else-branch g c).After-hash-key_hash) c.insert_mut.new.self put.bits put.entries c.in_ok-insert_mut.field-0 put.fresh c.if-branch.false

pub returns-then-branch-clause-ok : goal.returns-then-branch-clause-ok
returns-then-branch-clause-ok g c =
    let put = c.in_ok-insert_mut.ensures.ok in
    put_done c.args.entry.value.value (seen g (goal.at.returns-then-branch-clause-ok g c).After-hash-key_hash) c.insert_mut.new.self put.bits put.entries

pub returns-else-branch-clause-ok : goal.returns-else-branch-clause-ok
returns-else-branch-clause-ok g c =
    let put = c.in_ok-insert_mut.ensures.ok in
    put_done c.args.entry.value.value (seen g (goal.at.returns-else-branch-clause-ok g c).After-hash-key_hash) c.insert_mut.new.self put.bits put.entries

pub returns-then-branch-clause-size : goal.returns-then-branch-clause-size
returns-then-branch-clause-size g c = put_longer g.K.PartialEq.eq g.met.K.Eq.laws (c.args.entry.value.key, c.args.entry.value.value) c.args.self.now.entries _ (returns-then-branch-clause-ok g c).pairs

pub returns-else-branch-clause-size : goal.returns-else-branch-clause-size
returns-else-branch-clause-size g c = put_longer g.K.PartialEq.eq g.met.K.Eq.laws (c.args.entry.value.key, c.args.entry.value.value) c.args.self.now.entries _ (returns-else-branch-clause-ok g c).pairs

pub returns-then-branch-clause-found : goal.returns-then-branch-clause-found
returns-then-branch-clause-found g c =
    find_after g.met.K.Eq.laws (c.args.entry.value.key, c.args.entry.value.value) c.args.self.now.entries _ (returns-then-branch-clause-ok g c).pairs (invariant_of-self-then-branch g c).apart

pub returns-else-branch-clause-found : goal.returns-else-branch-clause-found
returns-else-branch-clause-found g c =
    find_after g.met.K.Eq.laws (c.args.entry.value.key, c.args.entry.value.value) c.args.self.now.entries _ (returns-else-branch-clause-ok g c).pairs (invariant_of-self-else-branch g c).apart

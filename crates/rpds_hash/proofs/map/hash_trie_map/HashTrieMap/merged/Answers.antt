use Rattle.rpds_hash.proofs.Words.{ap, ◌∙◌, arith, find, HashedMap}
use Rattle.rpds_hash_trie.specs.HashedMap.{key_hash}
use Rattle.rpds_hash_trie.proofs.MapGet.{alike_keys}
use Rattle.rpds_hash.proofs.UnitedMaps.{IsMerged, once_mine, once_theirs, merged, merged_same}
use Rattle.rpds_hash.proofs.map.hash_trie_map.HashTrieMap.merged.Given.{Over}
use Rattle.rpds_hash.proofs.map.hash_trie_map.HashTrieMap.merged.Goals as goal
use Rattle.rpds_hash.proofs.map.hash_trie_map.HashTrieMap.merged.Goals.{In_ok-size}

pub union-requires-clause-once : goal.union-requires-clause-once
union-requires-clause-once g c =
    let F = key_hash g.H.BuildHasher g.H.Hasher.Hasher g.K.Hash.hash_input in
    let hashed = c.all_hashed.ensures c.if-not-all_hashed.false in
    once_mine g.met.K.Eq.laws F c.self.inside.hasher c.other.inside.hasher (alike_keys g.H.BuildHasher g.H.Hasher.Hasher g.K.Hash.hash_input
    g.K.PartialEq.eq g.met.K.Hash.respects_eq c.self.inside.hasher) c.self.inside.root c.other.inside.root c.self.inside.size c.other.inside.size
    c.self.invariant c.other.invariant hashed

pub union-requires-clause-once_others : goal.union-requires-clause-once_others
union-requires-clause-once_others g c =
    let F = key_hash g.H.BuildHasher g.H.Hasher.Hasher g.K.Hash.hash_input in
    let hashed = c.all_hashed.ensures c.if-not-all_hashed.false in
    once_theirs g.met.K.Eq.laws F c.self.inside.hasher c.other.inside.hasher (alike_keys g.H.BuildHasher g.H.Hasher.Hasher g.K.Hash.hash_input
    g.K.PartialEq.eq g.met.K.Hash.respects_eq c.self.inside.hasher) c.self.inside.root c.other.inside.root c.self.inside.size c.other.inside.size
    c.self.invariant c.other.invariant hashed

joined : (g : Over) (c : In_ok-size g) → IsMerged g.K.PartialEq.eq (key_hash g.H.BuildHasher g.H.Hasher.Hasher g.K.Hash.hash_input) c.args.self.now
    c.args.other.now c.in_ok-root.root c.in_ok-size.size
joined g c =
    let F = key_hash g.H.BuildHasher g.H.Hasher.Hasher g.K.Hash.hash_input in
    let hashed = c.all_hashed.ensures c.if-not-all_hashed.false in
    let sized = c.in_ok-size.ensures.sum in
    merged g.met.K.Eq.laws F c.self.inside.hasher c.other.inside.hasher (alike_keys g.H.BuildHasher g.H.Hasher.Hasher g.K.Hash.hash_input g.K.PartialEq.eq
    g.met.K.Hash.respects_eq c.self.inside.hasher) c.self.inside.root c.other.inside.root c.self.inside.size c.other.inside.size c.self.invariant
    c.other.invariant hashed
    c.in_ok-root.root c.union.new.common c.in_ok-size.size c.in_ok-root.ensures.ok c.args.self.now c.args.other.now c.self.view_is c.other.view_is
    (omega (arith, sized))

pub of_root-requires-clause-sound : goal.of_root-requires-clause-sound
of_root-requires-clause-sound g c = (joined g c).map_is

pub returns-clause-found : goal.returns-clause-found
returns-clause-found g c =
    let eq = g.K.PartialEq.eq in
    let both = joined g (goal.at.returns-clause-found g c).In_ok-size in
    λ k. ap (λ (m : HashedMap g.row.K.Denot g.row.V.Denot g.row.H.Denot). find eq k m.entries) c.in_ok-map.ensures ∙ both.finds k

pub returns-clause-same : goal.returns-clause-same
returns-clause-same g c = merged_same c.args.self.now c.in_ok-map.map c.in_ok-root.root (joined g (goal.at.returns-clause-same g c).In_ok-size).degree
    c.in_ok-map.ensures

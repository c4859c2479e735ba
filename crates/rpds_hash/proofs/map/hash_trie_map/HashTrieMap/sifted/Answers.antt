use Rattle.rpds_hash.proofs.Words.{◌∙◌, arith}
use Rattle.rpds_hash_trie.specs.HashedMap.{key_hash}
use Rattle.rpds_hash_trie.proofs.MapGet.{alike_keys}
use Rattle.rpds_hash_trie.proofs.Sifted.{counted_most}
use Rattle.rpds_hash.proofs.SiftedMaps.{IsKept, kept_map}
use Rattle.rpds_hash.proofs.UnitedMaps.{all_once}
use Rattle.rpds_hash.proofs.map.hash_trie_map.HashTrieMap.sifted.Given.{Over}
use Rattle.rpds_hash.proofs.map.hash_trie_map.HashTrieMap.sifted.Goals as goal
use Rattle.rpds_hash.proofs.map.hash_trie_map.HashTrieMap.sifted.Goals.{After-kept_of-size}

pub sift-requires-clause-once : goal.sift-requires-clause-once
sift-requires-clause-once g c =
    let F = key_hash g.H.BuildHasher g.H.Hasher.Hasher g.K.Hash.hash_input in
    all_once g.met.K.Eq.laws (F c.self.inside.hasher) (alike_keys g.H.BuildHasher g.H.Hasher.Hasher g.K.Hash.hash_input g.K.PartialEq.eq g.met.K.Hash.respects_eq c.self.inside.hasher)
    c.self.inside.root.entries c.self.invariant.hashes c.self.invariant.apart

pub sift-requires-clause-once_others : goal.sift-requires-clause-once_others
sift-requires-clause-once_others g c =
    let F = key_hash g.H.BuildHasher g.H.Hasher.Hasher g.K.Hash.hash_input in
    all_once g.met.K.Eq.laws (F c.other.inside.hasher) (alike_keys g.H.BuildHasher g.H.Hasher.Hasher g.K.Hash.hash_input g.K.PartialEq.eq g.met.K.Hash.respects_eq c.other.inside.hasher)
    c.other.inside.root.entries c.other.invariant.hashes c.other.invariant.apart

pub kept_of-size-requires : goal.kept_of-size-requires
kept_of-size-requires g c =
    let most = counted_most g.K.PartialEq.eq c.self.inside.root.entries c.other.inside.root.entries 0 c.sift.new.common c.in_ok-root.ensures.counted in
    omega (arith, most, c.self.invariant.counted)

kept : (g : Over) (c : After-kept_of-size g) → IsKept g.K.PartialEq.eq (key_hash g.H.BuildHasher g.H.Hasher.Hasher g.K.Hash.hash_input) c.args.both c.args.self.now
    c.args.other.now c.in_ok-root.root c.kept_of-size.result
kept g c =
    let F = key_hash g.H.BuildHasher g.H.Hasher.Hasher g.K.Hash.hash_input in
    kept_map F c.self.inside.hasher c.other.inside.hasher (alike_keys g.H.BuildHasher g.H.Hasher.Hasher g.K.Hash.hash_input g.K.PartialEq.eq g.met.K.Hash.respects_eq)
    c.self.inside.root c.other.inside.root c.self.inside.size c.other.inside.size c.self.invariant c.other.invariant
    (c.are_hashed_alike.ensures c.if-not-are_hashed_alike.false) c.args.both c.in_ok-root.root c.in_ok-root.ensures.rest c.sift.new.common c.kept_of-size.result
    c.in_ok-root.ensures.counted c.kept_of-size.ensures c.args.self.now c.args.other.now c.self.view_is c.other.view_is

pub of_root-requires-clause-sound : goal.of_root-requires-clause-sound
of_root-requires-clause-sound g c = (kept g (goal.at.of_root-requires-clause-sound g c).After-kept_of-size).map_is

pub returns : goal.returns
returns g c = c.in_ok-map.ensures ∙ (kept g (goal.at.returns g c).After-kept_of-size).kept

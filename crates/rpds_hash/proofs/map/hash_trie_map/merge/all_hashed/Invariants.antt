use Rattle.std.proofs.Common.{length}
use Rattle.rpds_hash_trie.specs.HashedMap.{AllHashed, key_hash}
use Rattle.rpds_hash.proofs.map.hash_trie_map.merge.all_hashed.Given as goal

-- what is left decides
abbrev pub invariant-loop-stored : goal.invariant-loop-stored
invariant-loop-stored g l =
    let hash = key_hash g.H.BuildHasher g.H.Hasher.Hasher g.K.Hash.hash_input l.hasher in
    AllHashed hash l.walk → AllHashed hash l.root.entries

abbrev pub decreases-loop-stored : goal.decreases-loop-stored
decreases-loop-stored g l = length l.walk

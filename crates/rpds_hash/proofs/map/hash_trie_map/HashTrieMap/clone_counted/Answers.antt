use Rattle.std.proofs.Common.{refl}
use Rattle.rpds_hash.proofs.map.hash_trie_map.HashTrieMap.clone_counted.Goals as goal

pub returns-in_err-share-clause-counts : goal.returns-in_err-share-clause-counts
returns-in_err-share-clause-counts g c = refl

pub returns-clause-counts : goal.returns-clause-counts
returns-clause-counts g c = refl

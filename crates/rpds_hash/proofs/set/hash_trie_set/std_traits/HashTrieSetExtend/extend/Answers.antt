use Rattle.std.proofs.Common.{[], refl}
use Rattle.rpds_hash.proofs.set.hash_trie_set.std_traits.HashTrieSetExtend.extend.Goals as goal

pub extend-requires-clause-clone_hasher : goal.extend-requires-clause-clone_hasher
extend-requires-clause-clone_hasher g c = (c.requires c.into_iter-items.result c.into_iter-items.ensures.into_iter_gives).2 [] c.into_iter-items.result refl

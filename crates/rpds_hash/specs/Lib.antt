-- the words of public contracts
pub mod Altered
pub mod HashDifferences
pub mod HashFilled
pub mod HashMapLends
pub mod HashMerges
pub mod HashUnited
pub mod HashedSet
pub mod Identity
pub mod Kept
pub mod MembersEqual
pub mod PairsEqual
-- those that maps and sets of both kinds cite, handed on
pub use Rattle.rpds_core.specs.Calls
pub use Rattle.rpds_core.specs.OptionFilter
-- those that contracts of tries cite too, handed on
pub use Rattle.rpds_hash_trie.specs.Digits
pub use Rattle.rpds_hash_trie.specs.HashChanges
pub use Rattle.rpds_hash_trie.specs.HashedMap
pub use Rattle.rpds_hash_trie.specs.Places
pub use Rattle.rpds_hash_trie.specs.SparseArrayLends

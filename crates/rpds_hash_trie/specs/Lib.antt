-- the words that contracts of maps and sets cite too
pub mod Digits
pub mod HashChanges
pub mod HashedMap
pub mod Places
pub mod SparseArrayLends
-- those of the crate's own
pub mod HashFalls
pub mod HashInPlace
pub mod HashLent
pub mod HashLookUp
pub mod HashNode
pub mod HashRemoval
pub mod HashRemovalInPlace
pub mod HashRoot
pub mod HashSift
pub mod HashTrie
pub mod HashUnion
pub mod HashValues
pub mod HashWalk
pub mod formers

-- words of the contracts of vectors
pub mod Remade
pub mod Trie
pub mod VectorContents
pub mod VectorLends
pub mod Width
-- words of the contracts of its parts
pub mod Builder
pub mod Falls
pub mod ItemPlace
pub mod VectorNode
pub mod VectorWalk

-- the words that contracts of maps and sets cite too
pub mod Logarithm
pub mod Neighbors
pub mod OrderedMap
pub mod Pairs
pub mod Positions
pub mod Ranges
pub mod Values
-- those of the crate's own
pub mod Combined
pub mod Cuts
pub mod Insertion
pub mod Join
pub mod KeySeeks
pub mod Removal
pub mod SeekCuts
pub mod SeekLaws
pub mod Seeks
pub mod Shape
pub mod SideLends
pub mod Sides
pub mod Take
pub mod TreeNode
pub mod TreeWalk

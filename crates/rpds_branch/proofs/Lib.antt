pub mod BranchLaws
pub mod Changing
pub mod Copying
pub mod Merging
pub mod Touching

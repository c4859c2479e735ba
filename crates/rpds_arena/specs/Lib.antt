pub mod Folded
pub mod Ids
pub mod Interned
pub mod Numbered

pub mod InsertLaws
pub mod Items
pub mod Retained
pub mod Searches
pub mod Shallow
pub mod Lent

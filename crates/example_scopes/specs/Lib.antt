pub mod InScopes
pub mod Meaning

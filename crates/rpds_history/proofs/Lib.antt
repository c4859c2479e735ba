pub mod Examples
pub mod Versions

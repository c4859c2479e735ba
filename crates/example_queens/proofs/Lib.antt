pub mod Attacks
pub mod Extensions

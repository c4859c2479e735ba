pub mod Collected
pub mod Walked

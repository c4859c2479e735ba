pub mod Chains
pub mod Fronts
pub mod Halves
pub mod Replays
pub mod Turns

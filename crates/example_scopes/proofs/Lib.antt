pub mod Grown
pub mod Parts
pub mod Sums
pub mod Texts
pub mod Values

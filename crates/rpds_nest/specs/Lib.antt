-- words of the parts of a vector
pub mod Level
pub mod Tower
-- that a recursive type may hold a vector
pub mod formers

pub mod Chain
pub mod QueueContents
pub mod QueueText
pub mod StackText
pub mod Stretches
pub mod Turned

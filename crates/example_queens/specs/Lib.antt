pub mod Lines
pub mod Queens

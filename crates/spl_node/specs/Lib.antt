pub mod Node
pub mod Steps
pub mod Parts
pub mod Body

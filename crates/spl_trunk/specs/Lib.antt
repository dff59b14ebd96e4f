pub mod Trunk
pub mod Tree
pub mod Moves

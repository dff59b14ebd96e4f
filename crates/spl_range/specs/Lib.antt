pub mod Adding
pub mod Pieces
pub mod Stopping

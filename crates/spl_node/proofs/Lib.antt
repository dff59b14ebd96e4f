pub mod Walks
pub mod Starts
pub mod Nodes
pub mod Places
pub mod Lives
pub mod Splits

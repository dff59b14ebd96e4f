pub mod Begins
pub mod Ends
pub mod Fresh
pub mod Merges
pub mod Places
pub mod Stops

pub mod Ends
pub mod Stopping

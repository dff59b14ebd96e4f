pub mod Faults
pub mod Fetching

pub mod Queue
pub mod Joins
pub mod Merges
pub mod Runs

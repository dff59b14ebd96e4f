pub mod Counts
pub mod Standings

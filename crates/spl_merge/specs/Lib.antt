pub mod Merger
pub mod Merging
pub mod Ranks

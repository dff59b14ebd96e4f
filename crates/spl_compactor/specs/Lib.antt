pub mod Compacting
pub mod Outcomes
pub mod Stopping

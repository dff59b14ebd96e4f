pub mod Jobs
pub mod Stops

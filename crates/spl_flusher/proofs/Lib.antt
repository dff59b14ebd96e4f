pub mod Outcomes
pub mod Raised

pub mod Results
pub mod Grants
pub mod Picks
pub mod Owners
pub mod Publishes
pub mod Roots
pub mod Incorporates

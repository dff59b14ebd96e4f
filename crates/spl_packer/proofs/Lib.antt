pub mod Fills
pub mod Hangs
pub mod Outcomes
pub mod Shown
pub mod Stops

pub mod Builder
pub mod Counts
pub mod Cuts
pub mod Fault
pub mod Levels
pub mod Pyramid
pub mod Work
pub mod Written

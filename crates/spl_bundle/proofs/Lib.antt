pub mod Windows
pub mod Soundness
pub mod Runs
pub mod Copies
pub mod Live
pub mod Changes

pub mod Latches
pub mod Puts
pub mod Retired

pub mod Latching
pub mod Memory
pub mod Retiring

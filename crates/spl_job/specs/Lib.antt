pub mod After
pub mod Flushing
pub mod Growing
pub mod Holding
pub mod Latching
pub mod Merging

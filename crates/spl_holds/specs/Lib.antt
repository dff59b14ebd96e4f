pub mod Grip
pub mod Latch
pub mod Holds
pub mod Counts
pub mod Word
pub mod Room

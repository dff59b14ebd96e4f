pub mod Fnv
pub mod Spot
pub mod Slot
pub mod Counts
pub mod Table
pub mod Filling
pub mod Exponent
pub mod Filter

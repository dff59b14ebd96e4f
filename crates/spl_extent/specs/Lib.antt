pub mod Pool
pub mod Spare
pub mod Kept

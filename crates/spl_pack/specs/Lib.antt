pub mod Granting
pub mod Picking
pub mod Publishing
pub mod Incorporating

pub mod Counting
pub mod Leaves
pub mod Standing
pub mod Steps

pub mod Raising
pub mod Naming
pub mod Splitting

pub mod Marks
pub mod Owners
pub mod Frozen
pub mod Abandons
pub mod Ends

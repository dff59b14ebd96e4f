pub mod Causes
pub mod Adding
pub mod Finishing

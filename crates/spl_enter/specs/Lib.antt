pub mod Both
pub mod Turning

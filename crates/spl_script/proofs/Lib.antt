pub mod Again
pub mod Callers
pub mod Canonical
pub mod Parts
pub mod Readings
pub mod Seeds
pub mod Texts

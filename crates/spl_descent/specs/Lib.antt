pub mod Descents
pub mod Sights

pub mod Outcomes
pub mod Packs

pub mod Totals
pub mod Fronts
pub mod Keeps
pub mod Making
pub mod Gathering
pub mod Joining
pub mod Crossing

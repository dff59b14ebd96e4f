pub mod Refusals
pub mod Regrips

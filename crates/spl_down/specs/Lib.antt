pub mod Arrivals
pub mod Descending
pub mod Spans

pub mod Line
pub mod Load

pub mod Above
pub mod Building
pub mod Merging
pub mod Streams

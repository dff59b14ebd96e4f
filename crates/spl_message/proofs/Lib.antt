pub mod Bounds
pub mod Hashes
pub mod Histories
pub mod Messages
pub mod Rising
pub mod Spans
pub mod Tables
pub mod Words

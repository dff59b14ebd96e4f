pub mod Generator
pub mod Lines
pub mod Names
pub mod Reason
pub mod Text
pub mod Verb
pub mod Writing

pub mod Calling
pub mod Going
pub mod Lines
pub mod Lists
pub mod Runs
pub mod Scans
pub mod Solos

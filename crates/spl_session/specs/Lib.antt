pub mod Asking
pub mod Calling
pub mod Looking
pub mod Putting
pub mod Reaching
pub mod Writes

pub mod Branches
pub mod Calls
pub mod Causes
pub mod Holder
pub mod Quiet
pub mod Turn
pub mod Walk

pub mod Faults
pub mod Legal
pub mod Run
pub mod Solo
pub mod Status
pub mod Turns

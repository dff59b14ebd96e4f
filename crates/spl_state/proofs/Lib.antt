pub mod Empty
pub mod LettingGo
pub mod Views
pub mod Frames
pub mod Named
pub mod Replaced
pub mod Accounts

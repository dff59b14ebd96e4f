pub mod Plans
pub mod Reliefs
pub mod Rooms
pub mod Stale
pub mod Wide
pub mod Working
pub mod Works

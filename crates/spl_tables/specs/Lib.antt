pub mod Memtables
pub mod Room
pub mod Picked

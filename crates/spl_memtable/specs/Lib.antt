pub mod Memtable
pub mod Slice
pub mod Left

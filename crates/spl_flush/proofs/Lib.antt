pub mod Queues
pub mod Holds
pub mod Trims
pub mod Leads
pub mod Nodes
pub mod Flushes
pub mod Ends

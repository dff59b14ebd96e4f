pub mod Starting
pub mod Installing
pub mod Names

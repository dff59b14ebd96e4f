pub mod Meaning
pub mod Rule
pub mod Moves
pub mod Seating
pub mod Turning
pub mod Whose

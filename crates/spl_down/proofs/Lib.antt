pub mod Fronts
pub mod Answers
pub mod Seeing
pub mod Beginning
pub mod Moving
pub mod Stopping
pub mod Walking
pub mod Leaves

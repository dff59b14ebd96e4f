pub mod BitLemmas
pub mod LevelLemmas
pub mod ListedLemmas

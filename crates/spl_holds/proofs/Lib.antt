pub mod HoldsLemmas
pub mod LatchLemmas
pub mod TallyLemmas

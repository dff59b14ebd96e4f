pub mod BytesLemmas
pub mod PageExamples

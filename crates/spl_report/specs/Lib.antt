pub mod Merge
pub mod ReportText

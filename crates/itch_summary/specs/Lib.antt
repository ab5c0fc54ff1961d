pub mod Lines
pub mod RefusedCounts
pub mod Summaries
pub mod Engines

pub mod Summaries
pub mod Messages
pub mod NoStock
pub mod Dealing
pub mod Batches
pub mod Replays

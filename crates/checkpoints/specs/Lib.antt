pub mod Filtering
pub mod Copies

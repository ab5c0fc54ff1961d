pub mod Orders
pub mod Kept
pub mod Parts

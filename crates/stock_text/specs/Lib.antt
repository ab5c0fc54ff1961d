pub mod Stocks
pub mod Orders
pub mod Fields
pub mod Sessions

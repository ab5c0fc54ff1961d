pub mod Neighbours
pub mod Nearest
pub mod Searched
pub mod Stopping
pub mod Shown
pub mod Recent

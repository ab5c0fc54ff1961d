pub mod Stops
pub mod Finding
pub mod Sessions
pub mod FaultNumbers

pub mod Turns
pub mod Merging
pub mod Owners
pub mod Replaying
pub mod Schedules
pub mod Splitting
pub mod FaultNumbers

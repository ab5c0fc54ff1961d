pub mod Runs
pub mod Limits
pub mod FaultOrigins
pub mod ExitStatus

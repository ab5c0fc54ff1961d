pub mod Running
pub mod Working
pub mod FaultNumbers

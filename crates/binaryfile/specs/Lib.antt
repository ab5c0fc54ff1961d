pub mod Entries
pub mod Scanned
pub mod Index
pub mod Devices
pub mod Loading
pub mod FaultNumbers

pub mod Report
pub mod Tallies
pub mod HexInput
pub mod ReplayEngines
pub mod TextEngines

pub mod Lines
pub mod Messages
pub mod Made
pub mod Printers

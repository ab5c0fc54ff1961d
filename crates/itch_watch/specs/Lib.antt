pub mod Watching
pub mod Lines
pub mod Engines

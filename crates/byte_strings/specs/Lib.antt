pub mod Bytes
pub mod Extending

pub mod Quoted
pub mod Prefixes

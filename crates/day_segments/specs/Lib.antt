pub mod Segments
pub mod Reading

pub mod Reading
pub mod Indexing
pub mod Splitting
pub mod Along

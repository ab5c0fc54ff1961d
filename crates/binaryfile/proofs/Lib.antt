pub mod ByteRanges
pub mod Splitting
pub mod Offsets
pub mod PayloadBytes

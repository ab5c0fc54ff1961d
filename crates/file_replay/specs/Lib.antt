pub mod FileEnds
pub mod Files

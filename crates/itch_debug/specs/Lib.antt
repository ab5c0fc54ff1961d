pub mod Commands
pub mod Answering
pub mod Sessions
pub mod Going
pub mod Runs

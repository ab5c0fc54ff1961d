mod FinishedWorker
mod WorkersTogether
pub mod WorkerInvariant

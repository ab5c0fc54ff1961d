pub mod FilteredRanges
pub mod SeenStocks
pub mod DealtDay
pub mod Progress
pub mod MachineSteps
pub mod LocateCodes
pub mod StocksByWorker
pub mod TurnInvariant
mod LooksNeverGoBack
pub mod MergedDay

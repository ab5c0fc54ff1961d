pub mod OneViewChanges
pub mod CellWords
pub mod WriterSteps
pub mod ReaderSteps
pub mod OpenSplitJoin
pub mod TriesAndChanges
pub mod BoardCells

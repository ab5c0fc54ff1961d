mod GoesOn
mod OwnNumbers
mod NextMoment
mod Listing
mod WordNames
mod DirectoryRows
pub mod LongerDays
mod Searched
pub mod OwnMore
mod TopLinesMore
mod LinkedLives
mod KeptHistory
mod Found
mod TakenNext
pub mod TakenAlong
mod FileTaken
mod MarkedTrades
pub mod AllTaken
mod MachineSlots
mod TradeSteps
pub mod TradeRows

pub mod PlacesOfDays
mod ReadingParts
mod PartsTaken
mod LastNoted
mod ClockWords
pub mod Outcomes
mod OwnParts
mod ShownFiles
pub mod TwiceRuns
pub mod TwoReadings

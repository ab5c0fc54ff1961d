mod Filled
mod Carried
pub mod Following
mod FurtherReading
pub mod SegmentCases

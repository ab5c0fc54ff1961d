pub mod Between
pub mod HeldFields
pub mod OneWord
pub mod PrintedValues
pub mod PrintableLayouts
pub mod PrintedLines
pub mod PrintedFiles
pub mod RoundTrip

pub mod TextEnds
pub mod Printers
pub mod Extents

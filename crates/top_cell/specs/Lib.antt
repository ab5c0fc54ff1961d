pub mod Rule
pub mod Kinds
pub mod Seats
pub mod Boards
pub mod Tries
pub mod Readings

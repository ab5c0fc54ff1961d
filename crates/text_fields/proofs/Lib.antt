pub mod Padding
pub mod HexDigits
pub mod Prefixes

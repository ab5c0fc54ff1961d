pub mod Disassembly
pub mod Printing

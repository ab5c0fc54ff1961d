mod Printed
pub mod Results
pub mod Weaker

pub mod Consoles
pub mod Numbers
pub mod Quotes
pub mod Replying
pub mod Serving
pub mod ShownAnswers
pub mod StockLines

mod Places
mod NoLevels
mod MessagesMore
mod Traced
mod Written
mod StockWritten
mod Runs

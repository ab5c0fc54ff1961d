mod RisingNumbers
mod NoLaterMessage
mod SeenReadings
mod WriterAfterRun

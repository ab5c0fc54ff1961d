mod NoWorker
mod OnlyWorker

mod Faults
mod Tails
mod Further
mod Replayed
mod Dealt

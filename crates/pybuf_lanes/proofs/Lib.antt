mod Maps
mod DigitPairs
mod Counts
mod Runs
mod Blocks
mod Steps
mod Lowest
mod Turned

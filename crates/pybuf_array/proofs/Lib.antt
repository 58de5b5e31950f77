mod Sound
mod Runs
mod Lengths
mod Viewing
mod Slicing

pub mod Stops
pub mod Parts

pub mod Comparing
pub mod Hashing
pub mod Lines
pub mod Safe

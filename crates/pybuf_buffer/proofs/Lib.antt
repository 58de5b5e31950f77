pub mod Live
pub mod Ranges
pub mod Bounds
pub mod Adding
pub mod Appended
pub mod Walking

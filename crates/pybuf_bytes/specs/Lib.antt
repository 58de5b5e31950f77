pub mod Options
pub mod Needles
pub mod Searching
pub mod Shaping
pub mod ByteStrs

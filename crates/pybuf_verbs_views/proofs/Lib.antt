pub mod CastEntries
pub mod Safe
pub mod Twice

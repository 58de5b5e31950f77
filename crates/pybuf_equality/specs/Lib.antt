pub mod Equality
pub mod Exact
pub mod Reading
pub mod Walks
pub mod Tracks
pub mod Packed
pub mod Laws
pub mod Facts

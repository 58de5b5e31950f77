pub mod Laid
pub mod LaidBytes
pub mod Set
pub mod Writing
pub mod Assign
pub mod Laws
pub mod Facts

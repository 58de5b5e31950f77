pub mod Get
pub mod ToBytes
pub mod Len
pub mod Property
pub mod ToList
pub mod ItemRuns
pub mod Laws

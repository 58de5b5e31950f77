pub mod Iterators
pub mod Laws

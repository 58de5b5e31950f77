pub mod Compare
pub mod Hash
pub mod Repr
pub mod Laws

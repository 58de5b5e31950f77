pub mod Arguments
pub mod Texts
pub mod Writable
pub mod Laws
pub mod Holding

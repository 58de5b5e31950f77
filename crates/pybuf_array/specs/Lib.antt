pub mod Array
pub mod Operations
pub mod Parts
pub mod Laws

pub mod Codes
pub mod Numbers
pub mod Walks
pub mod Laws
pub mod Facts

pub mod Forgotten
pub mod Laws

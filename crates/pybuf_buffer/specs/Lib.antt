pub mod Making
pub mod Appending
pub mod Blocks
pub mod Lending
pub mod Laws

pub mod Blocks
pub mod Viewing
pub mod Plain
pub mod Lending
pub mod Laws

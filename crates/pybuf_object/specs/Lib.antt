pub mod Lending
pub mod Plain
pub mod Queue
pub mod Laws

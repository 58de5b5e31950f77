pub mod Blocks
pub mod Lent

pub mod Names
pub mod Pieces
pub mod Putting
pub mod Asks
pub mod Scripts
pub mod Sessions
pub mod Reading
pub mod Laws

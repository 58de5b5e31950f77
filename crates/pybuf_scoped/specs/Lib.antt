pub mod Stops
pub mod Views
pub mod Laws
pub mod Contents

pub mod Laws
pub mod Locked
pub mod Viewed

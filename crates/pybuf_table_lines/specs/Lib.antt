pub mod Queries
pub mod Listings
pub mod Texts
pub mod Laws

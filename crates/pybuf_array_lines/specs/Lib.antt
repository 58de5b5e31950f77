pub mod Arguments
pub mod Words
pub mod Operations
pub mod Inputs
pub mod Replies
pub mod Laws

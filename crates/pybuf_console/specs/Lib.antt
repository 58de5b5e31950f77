pub mod Console
pub mod Inputs
pub mod Owned
pub mod Held
pub mod Values
pub mod Replies
pub mod Reached
pub mod Lending

pub mod Commands
pub mod Entries
pub mod Faults
pub mod Laws
pub mod Names
pub mod Pushing
pub mod Replies
pub mod Words

pub mod Kinds
pub mod Loans
pub mod Arity
pub mod Handles
pub mod Replies
pub mod Shown
pub mod Laws
pub mod Facts

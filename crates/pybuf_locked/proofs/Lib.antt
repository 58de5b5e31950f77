pub mod Replying
pub mod Views

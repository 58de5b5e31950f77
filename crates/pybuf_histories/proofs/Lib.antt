pub mod Joined
pub mod Single
pub mod EntryLaws

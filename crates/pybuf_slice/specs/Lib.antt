pub mod Reads
pub mod Edits
pub mod EditLaws
pub mod Facts

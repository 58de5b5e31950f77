pub mod Basics
pub mod Reading
pub mod Methods
pub mod Lents
pub mod Effects
pub mod Edits
pub mod Steps

pub mod Classes
pub mod Cases
pub mod Strips
pub mod Blanks
pub mod Lines
pub mod Laws

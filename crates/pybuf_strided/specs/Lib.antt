pub mod Apart
pub mod Facts

pub mod Packer
pub mod Owned
pub mod Held

pub mod Finding
pub mod Safe

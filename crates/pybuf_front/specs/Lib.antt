pub mod FrontContent
pub mod Front

pub mod Numbers
pub mod NextLines
pub mod ReplyLaws
pub mod LineLaws
pub mod ReadBack

pub mod Safe
pub mod Listed
pub mod ItemRuns

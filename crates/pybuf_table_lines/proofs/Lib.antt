pub mod Asking
pub mod Listed
pub mod RowLaws

pub mod CloseLemmas
pub mod WriteLemmas

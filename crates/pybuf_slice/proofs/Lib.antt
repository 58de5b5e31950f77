pub mod ReadLemmas
pub mod TwinLemmas
pub mod EditLemmas
pub mod PartedLemmas
pub mod LengthLemmas
pub mod SetLemmas

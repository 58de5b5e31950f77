pub mod StepLemmas
pub mod SpanLemmas
pub mod LawLemmas
pub mod PartLemmas
mod LaneLemmas

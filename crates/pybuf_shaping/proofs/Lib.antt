pub mod GroupLemmas
pub mod DigitValues
pub mod ReadLemmas
pub mod FrontLemmas
pub mod TableLemmas
pub mod PadLemmas
pub mod TabLemmas
pub mod StopLemmas
pub mod ReplaceLemmas
mod PairLemmas

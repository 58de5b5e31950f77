pub mod RepeatLemmas
pub mod Settled

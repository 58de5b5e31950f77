pub mod MatchLaws
pub mod CutLemmas
pub mod JoinLaws
pub mod RepeatLemmas
pub mod OneByte
pub mod PlaceLemmas
pub mod AffixLemmas
pub mod EndLaws

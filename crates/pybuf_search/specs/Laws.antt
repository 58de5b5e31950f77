-- What is promised of matches, of cuts, and of bytes without a prefix or a suffix.
use Rattle.std.specs.Prelude.{◌≡◌, ℕ, ℤ, ◌+◌, ◌-◌, ◌<◌, ◌≤◌, List, [], ◌∷◌, ◌++◌, length}
use Rattle.std.specs.List.{concat}
use Rattle.memchr.specs.Find.{OccursAt, match_len}
use Rattle.bstr.specs.Owned.{joined}
use Rattle.pybuf_search.specs.Matches.{matches_from_left, matches_from_right}
use Rattle.pybuf_search.specs.Places.{number_of_matches}
use Rattle.pybuf_search.specs.Parts.{split_parts, rsplit_parts, partition_parts, rpartition_parts}
use Rattle.pybuf_search.specs.Ends.{without_prefix, without_suffix}

-- The needle stands at a place from `from` on, and at none before it.
pub record IsLeast (bytes needle : List ℕ) (from place : ℕ) : Type 0 where
  pub reached : from ≤ place
  pub stands : OccursAt bytes needle place
  pub none_before : (k : ℕ) → from ≤ k → k < place → ¬ OccursAt bytes needle k

-- The needle stands at a place below `end`, and at none between them.
pub record IsGreatest (bytes needle : List ℕ) (end place : ℕ) : Type 0 where
  pub below : place < end
  pub stands : OccursAt bytes needle place
  pub none_after : (k : ℕ) → place < k → k < end → ¬ OccursAt bytes needle k

-- Each place is the least one, from a bound on, at which the needle stands. The bound is `from` at first, and then the
-- end of the match before. Behind the last match the needle stands nowhere. A match of an empty needle ends one place
-- on (`match_len`), so that the next place is a match too.
unfoldable pub AreFromLeft : List ℕ → List ℕ → ℕ → List ℕ → Type 0
AreFromLeft bytes needle from [] = (k : ℕ) → from ≤ k → ¬ OccursAt bytes needle k
AreFromLeft bytes needle from (place ∷ places) =
    IsLeast bytes needle from place × AreFromLeft bytes needle (place + match_len needle) places

-- Each place is the greatest one below a bound at which the needle stands. The bound is `end` at first. Then it is
-- chosen so that the match ends at or before the one listed before it. Before the last one listed no such match stands.
unfoldable pub AreFromRight : List ℕ → List ℕ → ℕ → List ℕ → Type 0
AreFromRight bytes needle end [] = (k : ℕ) → k < end → ¬ OccursAt bytes needle k
AreFromRight bytes needle end (place ∷ places) =
    IsGreatest bytes needle end place × AreFromRight bytes needle (place + 1 - match_len needle) places

-- ---- the laws

abbrev pub MatchesAreFromLeft : Type 0
MatchesAreFromLeft = (bytes needle : List ℕ) → AreFromLeft bytes needle 0 (matches_from_left bytes needle)

abbrev pub MatchesAreFromRight : Type 0
MatchesAreFromRight =
    (bytes needle : List ℕ) → AreFromRight bytes needle (length bytes + 1) (matches_from_right bytes needle)

-- an empty needle stands at each place, from 0 to the length
abbrev pub EmptyStandsEverywhere : Type 0
EmptyStandsEverywhere = (bytes : List ℕ) → number_of_matches bytes [] ≡ length bytes + 1

-- the parts of a split, joined by the separator, are the bytes
abbrev pub SplitJoinsBack : Type 0
SplitJoinsBack = (most : ℤ) (separator bytes : List ℕ) → joined separator (split_parts most separator bytes) ≡ bytes

abbrev pub RsplitJoinsBack : Type 0
RsplitJoinsBack = (most : ℤ) (separator bytes : List ℕ) → joined separator (rsplit_parts most separator bytes) ≡ bytes

-- the three parts of a partition, put together, are the bytes
abbrev pub PartitionIsWhole : Type 0
PartitionIsWhole = (separator bytes : List ℕ) → concat (partition_parts separator bytes) ≡ bytes

abbrev pub RpartitionIsWhole : Type 0
RpartitionIsWhole = (separator bytes : List ℕ) → concat (rpartition_parts separator bytes) ≡ bytes

-- ---- what bytes begin and end with

-- the bytes are the prefix and some bytes behind it
abbrev pub BeginsWith : List ℕ → List ℕ → Type 0
BeginsWith bytes prefix = (rest : List ℕ) × (bytes ≡ prefix ++ rest)

-- the bytes are some bytes and the suffix behind them
abbrev pub EndsWith : List ℕ → List ℕ → Type 0
EndsWith bytes suffix = (rest : List ℕ) × (bytes ≡ rest ++ suffix)

-- If the bytes begin with the prefix, they are the prefix and what is left of them, put together. If they don't, they
-- stay as they are.
pub record PrefixIsRemoved (bytes prefix : List ℕ) : Type 0 where
  pub whole : BeginsWith bytes prefix → prefix ++ without_prefix bytes prefix ≡ bytes
  pub same : ¬ BeginsWith bytes prefix → without_prefix bytes prefix ≡ bytes

-- The same for a suffix, which stands behind what is left.
pub record SuffixIsRemoved (bytes suffix : List ℕ) : Type 0 where
  pub whole : EndsWith bytes suffix → without_suffix bytes suffix ++ suffix ≡ bytes
  pub same : ¬ EndsWith bytes suffix → without_suffix bytes suffix ≡ bytes

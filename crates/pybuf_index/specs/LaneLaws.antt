-- What the hash of a slice tells about its lanes. A lane is the hash of one of the slice's parts.
use Rattle.std.specs.Prelude.{◌≡◌, ◌↔◌, ◌⊎◌, ℕ, ◌^◌, ◌<◌, ℤ, pos, negsuc}
use Rattle.pybuf_index.specs.Lanes.{minus_one, mixed, hash_of}

-- a number of 64 bits
abbrev pub IsWord : ℕ → Type 0
IsWord n = n < 2 ^ 64

-- the lane of a part that has a hash, so that it isn't -1
abbrev pub IsLane : ℕ → Type 0
IsLane lane = lane < minus_one

-- Two hashes are the same only if both are the number that is given in place of -1.
abbrev pub DifferButForOne : ℤ → ℤ → Type 0
DifferButForOne hash other = hash ≡ other → hash ≡ pos 1546275796

-- two lanes that differ give different hashes, if they stand at the same place among the same other lanes
pub record EachLaneCounts (lane other : ℕ) : Type 0 where
  pub start : (stop step : ℕ) → IsLane stop → IsLane step → DifferButForOne (hash_of lane stop step) (hash_of other stop step)
  pub stop : (start step : ℕ) → IsLane start → IsLane step → DifferButForOne (hash_of start lane step) (hash_of start other step)
  pub step : (start stop : ℕ) → IsLane start → IsLane stop → DifferButForOne (hash_of start stop lane) (hash_of start stop other)

-- Mixing loses nothing. From the same number, two lanes that differ give different numbers. With the same lane, two
-- numbers that differ give different numbers.
pub record MixingLosesNothing : Type 0 where
  pub lane : (hash lane other : ℕ) → IsWord hash → IsWord lane → IsWord other → mixed hash lane ≡ mixed hash other → lane ≡ other
  pub hash : (hash other lane : ℕ) → IsWord hash → IsWord other → IsWord lane → mixed hash lane ≡ mixed other lane → hash ≡ other

-- the whole hash is -1 exactly if some lane is
abbrev pub NoHashWhereALaneIsNone : Type 0
NoHashWhereALaneIsNone =
    (start stop step : ℕ) → IsWord start → IsWord stop → IsWord step
    → (hash_of start stop step ≡ negsuc 0) ↔ ((start ≡ minus_one) ⊎ (stop ≡ minus_one) ⊎ (step ≡ minus_one))

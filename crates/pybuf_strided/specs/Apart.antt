-- Items that lie apart.
use Rattle.std.specs.Prelude.{◌≡◌, ℕ, zero, suc, ◌+◌, ◌-◌, ◌*◌, ◌<◌, ◌≤◌, Bool, true, List, [], ◌++◌, length, take, drop, if◌then◌else◌}

-- the place of item k: it lies k steps below the first item's place, or above it
abbrev pub place_of : Bool → ℕ → ℕ → ℕ → ℕ
place_of falls start step k = if falls then start - k * step else start + k * step

-- each byte of these items, which are one step apart, lies among this many bytes
pub record AreInside (falls : Bool) (start step count size room : ℕ) : Type 0 where
  pub low : (k : ℕ) → k < count → falls ≡ true → k * step ≤ start
  pub high : 0 < size → (k : ℕ) → k < count → place_of falls start step k + size ≤ room

-- the bytes with a piece in place of those from one place on
abbrev pub with_piece : List ℕ → ℕ → List ℕ → List ℕ
with_piece bytes start piece = take start bytes ++ piece ++ drop (start + length piece) bytes

-- The bytes after this many items were copied over them, one after the other. Item k is copied from its place in the
-- source to its place among the bytes.
abbrev pub moved_at : List ℕ → (ℕ → ℕ) → List ℕ → (ℕ → ℕ) → ℕ → ℕ → List ℕ
moved_at bytes to source from size zero = bytes
moved_at bytes to source from size (suc n) = with_piece (moved_at bytes to source from size n) (to n) (take size (drop (from n) source))

-- the bytes of this many items of one size, one item after the other
abbrev pub pieces_at : List ℕ → (ℕ → ℕ) → ℕ → ℕ → List ℕ
pieces_at source from size zero = []
pieces_at source from size (suc n) = pieces_at source from size n ++ take size (drop (from n) source)

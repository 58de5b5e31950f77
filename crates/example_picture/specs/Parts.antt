-- Parts of a picture, and what a part shows that is made of another part.
use Rattle.std.specs.Prelude.{◌≡◌, ◌+◌, ◌-◌, ◌*◌, ◌<◌, ℕ, List, slice_index}
use Rattle.std.specs.declared.ops.Range.{Range}

-- A part: its rows, columns and channels, and which of the picture's levels it shows, row by row, and pixel by
-- pixel in a row.
pub record Part : Type 0 where
  pub rows : ℕ
  pub columns : ℕ
  pub channels : ℕ
  pub places : List ℕ

-- which of the picture's levels the part shows in this row, column and channel
abbrev pub place : Part → ℕ → ℕ → ℕ → ℕ
place part row column channel = slice_index part.places (row * (part.columns * part.channels) + (column * part.channels + channel))

-- The part made has this many rows and columns. Its pixel in any row and column is the other part's pixel at
-- the place that `source` gives.
pub record Shows (part made : Part) (tall wide : ℕ) (source : ℕ → ℕ → ℕ × ℕ) : Type 0 where
  pub rows : made.rows ≡ tall
  pub columns : made.columns ≡ wide
  pub channels : made.channels ≡ part.channels
  pub pixels : (row column channel : ℕ) → row < tall → column < wide → channel < part.channels
      → place made row column channel ≡ place part (source row column).0 (source row column).1 channel

-- The part made has the rows and columns of these ranges.
abbrev pub IsCropped : Part → Range ℕ → Range ℕ → Part → Type 0
IsCropped part rows columns made = Shows part made (rows.end - rows.start) (columns.end - columns.start) (λ row column. (rows.start + row, columns.start + column))

-- Left and right change places.
abbrev pub IsFlipped : Part → Part → Type 0
IsFlipped part made = Shows part made part.rows part.columns (λ row column. (row, part.columns - 1 - column))

-- A quarter turn to the right, after which the last row is the first column.
abbrev pub IsTurned : Part → Part → Type 0
IsTurned part made = Shows part made part.columns part.rows (λ row column. (part.rows - 1 - column, row))

-- The part is all of a picture, whose levels lie row by row, and pixel by pixel in a row.
pub record IsWhole (tall wide deep : ℕ) (part : Part) : Type 0 where
  pub rows : part.rows ≡ tall
  pub columns : part.columns ≡ wide
  pub channels : part.channels ≡ deep
  pub pixels : (row column channel : ℕ) → row < tall → column < wide → channel < deep
      → place part row column channel ≡ row * (wide * deep) + (column * deep + channel)

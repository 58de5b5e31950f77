-- Pictures: levels in rows, columns and channels, and the parts that were given of a picture.
use Rattle.std.specs.Prelude.{◌≡◌, ◌*◌, ◌<◌, ℕ, false, List, [], ◌∷◌, ◌++◌, length, map, slice_index_or}
use Rattle.std.specs.List.{All}
use Rattle.pybuf_command.specs.declared.kinds.ExporterKind.TheVariants as kinds
use Rattle.pybuf_state.specs.Exporter.{Exporter, View}
use Rattle.example_picture.specs.Parts.{Part}
use Rattle.example_picture.specs.Cuts.{part_of, IsFrame}

-- A picture: its size, its levels row by row and pixel by pixel in a row, and the parts that were given, in
-- order.
pub record Picture : Type 0 where
  pub rows : ℕ
  pub columns : ℕ
  pub channels : ℕ
  pub levels : List ℕ
  pub parts : List Part

abbrev pub picture_of : ℕ → ℕ → ℕ → List ℕ → Picture
picture_of rows columns channels levels = record { rows = rows; columns = columns; channels = channels; levels = levels; parts = [] }

-- the part that has this number, or one without pixels if none was given
abbrev pub part_at : Picture → ℕ → Part
part_at p k = slice_index_or p.parts k (record { rows = 0; columns = 0; channels = 0; places = [] })

-- One more part was given, which has this number, and nothing else changed.
pub record IsGiven (old : Picture) (part : Part) (new : Picture) (given : ℕ) : Type 0 where
  pub number : given ≡ length old.parts
  pub after : new ≡ record old { parts = old.parts ++ part ∷ [] }

-- The part has a level in this row, this column and this channel.
pub record HasLevel (part : Part) (row column channel : ℕ) : Type 0 where
  pub in_rows : row < part.rows
  pub in_columns : column < part.columns
  pub in_channels : channel < part.channels

-- ---- how a picture is kept

abbrev pub picture_in : ℕ → ℕ → ℕ → Exporter → Picture
picture_in rows columns channels e =
    record { rows = rows; columns = columns; channels = channels; levels = e.bytes; parts = map (λ (v : View). part_of v.layout) e.views }

-- The view is unreleased and shows a part.
pub record IsOut (v : View) : Type 0 where
  pub live : v.released ≡ false
  pub frame : IsFrame v.layout

-- what holds of the exporter of a picture of this size
pub record IsPicture (tall wide deep : ℕ) (e : Exporter) : Type 0 where
  pub kind : e.kind ≡ kinds.ByteArray
  pub size : length e.bytes ≡ tall * (wide * deep)
  pub some_row : 0 < tall
  pub some_column : 0 < wide
  pub some_channel : 0 < deep
  pub views : All IsOut e.views

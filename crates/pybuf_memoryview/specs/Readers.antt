-- Items that are read by a format whose text was read once.
use Rattle.std.specs.Prelude.{◌≡◌, ℕ, List, [], ◌∷◌, true, Ok, ⊤}
use Rattle.pybuf_value.specs.declared.values.Item.{Item}
use Rattle.pybuf_value.specs.declared.values.Item.TheVariants as item
use Rattle.pybuf_struct.specs.Formats.{format_of}
use Rattle.pybuf_struct.specs.Values.{unpacked_values}
use Rattle.pybuf_memoryview.specs.Fits.{is_byte_format}
use Rattle.pybuf_memoryview.specs.Items.{byte_item, item_of_values}
use Rattle.pybuf_memoryview.specs.declared.readers.ItemReader.{ItemReader}
use Rattle.pybuf_memoryview.specs.declared.readers.ItemReader.TheVariants as reader

abbrev pub read_by : ItemReader → List ℕ → Item
read_by reader.Byte (byte ∷ []) = byte_item byte
read_by reader.Byte _ = item.Many []
read_by (reader.Fields format) bytes = item_of_values (unpacked_values format bytes)
read_by reader.Nothing _ = item.Many []

-- the text of a format spells what a reader reads by
abbrev pub IsSpelledBy : List ℕ → ItemReader → Type 0
IsSpelledBy text reader.Byte = is_byte_format text ≡ true
IsSpelledBy text (reader.Fields format) = format_of text ≡ Ok format
IsSpelledBy text reader.Nothing = ⊤

-- How the items of a view are read.
use Rattle.std.specs.Prelude.{◌≡◌, ℕ, Bool, false, List, length, Ok, [], ◌∷◌}
use Rattle.pybuf_value.specs.declared.values.Item.TheVariants as item
use Rattle.pybuf_value.specs.declared.values.Scalar.TheVariants as scalar
use Rattle.pybuf_struct.specs.Digits.{number}
use Rattle.pybuf_memoryview.specs.Items.{item_by}
use Rattle.pybuf_memoryview.specs.Readers.{read_by}
use Rattle.pybuf_memoryview.specs.declared.readers.ItemReader.{ItemReader}
use Rattle.pybuf_struct.specs.declared.table.Endianness.{Endianness}
use Rattle.pybuf_struct.specs.declared.table.FormatType.{FormatType}
use Rattle.pybuf_struct.specs.Table.{is_big}
use Rattle.pybuf_struct.specs.Values.{value_of, unpacked_values}
use Rattle.pybuf_struct.specs.Formats.{Format}

-- if bytes have the size of an item, a reader reads them as the text of a format does
abbrev pub ReadsAs : ItemReader → List ℕ → ℕ → Type 0
ReadsAs reader format size = (bytes : List ℕ) → length bytes ≡ size → read_by reader bytes ≡ item_by format bytes

-- If bytes have the size of an item, the text of a format reads them as one whole number, with or without a sign. The
-- first byte is worth least.
abbrev pub ReadsAsNumber : Bool → List ℕ → ℕ → Type 0
ReadsAsNumber signed format size = (bytes : List ℕ) → length bytes ≡ size → item_by format bytes ≡ item.One (scalar.Int (number false signed bytes))

-- ---- what reads a whole number, with a sign or without

-- a code, in either order of bytes
abbrev pub CodeReadsNumber : FormatType → Bool → Type 0
CodeReadsNumber code signed = (order : Endianness) (bytes : List ℕ) → value_of order code bytes ≡ scalar.Int (number (is_big order) signed bytes)

-- a format of one number of this size, whose first byte is worth least
abbrev pub UnpacksNumber : Format → ℕ → Bool → Type 0
UnpacksNumber format size signed = (bytes : List ℕ) → length bytes ≡ size → unpacked_values format bytes ≡ Ok (scalar.Int (number false signed bytes) ∷ [])

-- a reader of items of this size, of which the first byte is worth least
abbrev pub ReaderReadsNumber : ItemReader → ℕ → Bool → Type 0
ReaderReadsNumber reader size signed = (bytes : List ℕ) → length bytes ≡ size → read_by reader bytes ≡ item.One (scalar.Int (number false signed bytes))

-- Tables of binary records: bytes that are read as records of one format, one after another.
use Rattle.std.specs.Prelude.{ℕ, zero, suc, ◌≡◌, ◌<◌, ◌/◌, ◌%◌, ◌==◌, Bool, List, [], ◌∷◌, length, take, drop, Result, Ok, Err, if◌then◌else◌}
use Rattle.pybuf_value.specs.declared.faults.Fault.{Fault}
use Rattle.pybuf_value.specs.declared.faults.Fault.TheVariants as fault
use Rattle.pybuf_value.specs.declared.values.Scalar.{Scalar}
use Rattle.pybuf_value.specs.Refusing.{◌>>=◌, unless}
use Rattle.pybuf_struct.specs.Formats.{Format, format_of}
use Rattle.pybuf_struct.specs.Values.{values}

-- ---- formats of records

-- the format of records, by its text and by the fields that the text spells
pub record RecordFormat : Type 0 where
  pub text : List ℕ
  pub format : Format

-- The format of records that a text spells. A text that spells none is refused with `StructError`, and then one
-- whose records have no byte is refused with `ValueError`.
abbrev pub record_format : List ℕ → Result RecordFormat Fault
record_format text = do
  format ← format_of text
  _ ← unless (format.size == 0) fault.Value
  Ok (record { text = text; format = format })

-- what holds of every format of records
pub record IsRecordFormat (r : RecordFormat) : Type 0 where
  pub spelled : format_of r.text ≡ Ok r.format
  pub some_size : 0 < r.format.size

-- ---- records

-- the values of each of the first n records, which lie one after another
abbrev pub rows_of : Format → ℕ → List ℕ → List (List Scalar)
rows_of f zero bytes = []
rows_of f (suc n) bytes = values f (take f.size bytes) ∷ rows_of f n (drop f.size bytes)

-- the values of each record that bytes have
abbrev pub rows : Format → List ℕ → List (List Scalar)
rows f bytes = rows_of f (length bytes / f.size) bytes

-- whether bytes are whole records and nothing else
abbrev pub is_whole : Format → List ℕ → Bool
is_whole f bytes = length bytes % f.size == 0

-- The values of each record, if the bytes are whole records and nothing else. Otherwise this is `StructError`.
abbrev pub whole_rows : Format → List ℕ → Result (List (List Scalar)) Fault
whole_rows f bytes = if is_whole f bytes then Ok (rows f bytes) else Err fault.Struct

-- What holds of the bytes of the records that are still left.
pub record IsLeft (f : Format) (rest : List ℕ) : Type 0 where
  pub some_size : 0 < f.size
  pub whole : length rest % f.size ≡ 0

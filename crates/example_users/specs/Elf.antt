-- Files of programs in the ELF format, of 64 bits and with the low byte of a number first: a header of 64 bytes, and a table of
-- sections with 64 bytes for each.
use Rattle.std.specs.Prelude.{◌+◌, ◌*◌, ◌==◌, ℕ, pos, not, Bool, List, [], ◌∷◌, length, codes, bytes_eq, take, nat_lt, Result, Ok}
use Rattle.pybuf_value.specs.declared.faults.Fault.{Fault}
use Rattle.pybuf_value.specs.declared.faults.Fault.TheVariants as fault
use Rattle.pybuf_value.specs.declared.values.Scalar.{Scalar}
use Rattle.pybuf_value.specs.declared.values.Scalar.TheVariants as scalar
use Rattle.pybuf_value.specs.Refusing.{◌>>=◌, unless}
use Rattle.pybuf_struct.specs.Digits.{little_endian}
use Rattle.pybuf_struct.specs.Formats.{Format}
use Rattle.pybuf_desc.specs.Items.{bytes_at}
use Rattle.pybuf_table.specs.Records.{rows}
use Rattle.example_users.specs.declared.elf_file.SectionTable.{SectionTable}

-- the number that has `size` bytes at a place
abbrev pub number_at : List ℕ → ℕ → ℕ → ℕ
number_at file size place = little_endian 0 (bytes_at file size place)

-- the name of the format, 64 bits, and the low byte first
abbrev pub is_elf : List ℕ → Bool
is_elf file = bytes_eq (take 6 file) (127 ∷ 69 ∷ 76 ∷ 70 ∷ 2 ∷ 1 ∷ [])

-- the numbers of the header of a file that say where its sections are described
abbrev pub header_values_of : List ℕ → Result (List Scalar) Fault
header_values_of file = do
  _ ← unless (nat_lt (length file) 64) fault.Struct
  Ok (
      scalar.Int (pos (number_at file 8 40)) ∷ scalar.Int (pos (number_at file 2 58)) ∷ scalar.Int (pos (number_at file 2 60))
      ∷ scalar.Int (pos (number_at file 2 62)) ∷ []
      )

-- Where the sections of a file are described. The header has the place of their table in the 8 bytes at 40. In
-- 2 bytes each it has, at 58, how many bytes describe a section, at 60, how many sections there are, and at 62,
-- which of them has their names.
abbrev pub section_table_of : List ℕ → Result SectionTable Fault
section_table_of file = do
  _ ← unless (nat_lt (length file) 64) fault.Struct
  _ ← unless (not (is_elf file)) fault.Value
  _ ← unless (not (number_at file 2 58 == 64)) fault.Value
  Ok (record { start = number_at file 8 40; count = number_at file 2 60; names = number_at file 2 62 })

-- The values of each section, by a format of 64 bytes, from the place of the table on. If the file ends before
-- the table does, this is `IndexError`.
abbrev pub sections_of : Format → List ℕ → Result (List (List Scalar)) Fault
sections_of f file = do
  table ← section_table_of file
  _ ← unless (nat_lt (length file) (table.start + 64 * table.count)) fault.Index
  Ok (rows f (bytes_at file (64 * table.count) table.start))

-- the format of what describes a section: where its name stands among the names, its type, flags, address, place in the file
-- and size, two numbers by its type, its alignment, and the size of an entry
abbrev pub section_format : List ℕ
section_format = codes "<IIQQQQIIQQ"

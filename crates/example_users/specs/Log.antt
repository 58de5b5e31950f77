-- Logs of a weather station: a header of ten bytes, and then readings of seven bytes each.
use Rattle.std.specs.Prelude.{◌≡◌, ◌+◌, ◌*◌, ◌==◌, ℕ, true, false, not, List, length, codes, bytes_eq, take, nat_lt, Result, Ok}
use Rattle.pybuf_value.specs.declared.faults.Fault.{Fault}
use Rattle.pybuf_value.specs.declared.faults.Fault.TheVariants as fault
use Rattle.pybuf_value.specs.Refusing.{◌>>=◌, unless}
use Rattle.pybuf_struct.specs.Digits.{little_endian, number}
use Rattle.pybuf_desc.specs.Items.{bytes_at}
use Rattle.pybuf_state.specs.Exporter.{Exporter}
use Rattle.example_users.specs.declared.weather_log.Header.{Header}
use Rattle.example_users.specs.declared.weather_log.Reading.{Reading}

-- The header. Four bytes say what the file is. The year follows in two bytes, and the number of readings in
-- four, each with the low byte first.
abbrev pub header_of : List ℕ → Result Header Fault
header_of file = do
  _ ← unless (nat_lt (length file) 10) fault.Struct
  _ ← unless (not (bytes_eq (take 4 file) (codes "LOGS"))) fault.Value
  Ok (record { year = little_endian 0 (bytes_at file 2 4); count = little_endian 0 (bytes_at file 4 6) })

-- A reading: the second in four bytes, the temperature in two, with a sign, and the station in one byte.
abbrev pub reading_of : List ℕ → Result Reading Fault
reading_of bytes = do
  _ ← unless (not (length bytes == 7)) fault.Struct
  Ok (record {
    second = little_endian 0 (bytes_at bytes 4 0);
    temperature = number false true (bytes_at bytes 2 4);
    station = little_endian 0 (bytes_at bytes 1 6);
  })

-- the bytes, if there are as many as their header says
abbrev pub checked_log : List ℕ → Result (List ℕ) Fault
checked_log file = do
  header ← header_of file
  _ ← unless (not (length file == 10 + 7 * header.count)) fault.Struct
  Ok file

-- the reading that has this number, which lies behind the header and the readings before it
abbrev pub reading_at : List ℕ → ℕ → Result Reading Fault
reading_at file number = do
  header ← header_of file
  _ ← unless (not (nat_lt number header.count)) fault.Index
  reading_of (bytes_at file 7 (10 + 7 * number))

-- What holds of a log that was opened.
pub record IsLog (e : Exporter) (header : Header) : Type 0 where
  pub read : header_of e.bytes ≡ Ok header
  pub whole : length e.bytes ≡ 10 + 7 * header.count

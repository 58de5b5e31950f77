-- What the arguments of padding and of translating stand for.
use Rattle.std.specs.Prelude.{ℕ, ◌==◌, List, [], ◌∷◌, length, Option, None, Some, Result, Ok, Err, if◌then◌else◌}
use Rattle.std.specs.Str.{byte}
use Rattle.std.specs.Global.{Vec}
use Rattle.pybuf_value.specs.declared.faults.Fault.{Fault}
use Rattle.pybuf_value.specs.declared.faults.Fault.TheVariants as fault
use Rattle.pybuf_value.specs.declared.faults.Outcome.{Outcome}
use Rattle.pybuf_value.specs.declared.faults.Outcome.TheVariants as outcome
use Rattle.pybuf_value.specs.declared.snaps.Snap.{Snap}
use Rattle.pybuf_value.specs.declared.values.Scalar.TheVariants as scalar
use Rattle.pybuf_value.specs.declared.values.Value.{Value}
use Rattle.pybuf_value.specs.declared.values.Value.TheVariants as value
use Rattle.pybuf_value.specs.Refusing.{◌>>=◌}
use Rattle.pybuf_value.specs.Snaps.{snap_of, bytes_in, content_of_string, string_bytes_of}
use Rattle.pybuf_shaping.specs.Tables.{all_bytes, translated}

-- ---- fill bytes

-- the byte, if there is exactly one
abbrev pub single : Option (List ℕ) → Result ℕ Fault
single (Some (b ∷ [])) = Ok b
single _ = Err fault.Kind

-- the fill byte that a handle names; a handle that was never given is refused first
abbrev pub fill_of_named : Option Snap → Result ℕ Fault
fill_of_named None = Err fault.UnknownName
fill_of_named (Some snap) = single (content_of_string snap.kind snap.content)

-- the byte of a bytes value, or of bytes or a bytearray, of length 1
abbrev pub fill_in : List (ℕ × Snap) → Value → Result ℕ Fault
fill_in pairs (value.One (scalar.Handle h)) = fill_of_named (snap_of pairs h)
fill_in pairs v = single (string_bytes_of pairs v)

-- the fill byte, or a space if none is given
abbrev pub fill_of : List (ℕ × Snap) → Option Value → Result ℕ Fault
fill_of pairs None = Ok (byte " ")
fill_of pairs (Some v) = fill_in pairs v

-- the bytes, filled up by what is given
abbrev pub filled : (ℕ → List ℕ → List ℕ) → List (ℕ × Snap) → Option Value → List ℕ → Result (List ℕ) Fault
filled shape pairs v bytes = do
  fill ← fill_of pairs v
  Ok (shape fill bytes)

-- ---- tables

-- a table has 256 bytes
abbrev pub full_table : List ℕ → Result (List ℕ) Fault
full_table table = if length table == 256 then Ok table else Err fault.Value

-- a table as it is read: what can't be read as bytes is a wrong value, but a handle that was never given stays unknown
abbrev pub table_read : Result (List ℕ) Fault → Result (List ℕ) Fault
table_read (Ok table) = full_table table
table_read (Err fault.UnknownName) = Err fault.UnknownName
table_read (Err _) = Err fault.Value

abbrev pub table_in : List (ℕ × Snap) → Value → Result (List ℕ) Fault
table_in pairs (value.One scalar.None) = Ok all_bytes
table_in pairs v = table_read (bytes_in pairs v)

-- the table, or the one that maps each byte to itself if none is given
abbrev pub table_given : List (ℕ × Snap) → Option Value → Result (List ℕ) Fault
table_given pairs None = Ok all_bytes
table_given pairs (Some v) = table_in pairs v

-- the bytes to be dropped, or none if none are given
abbrev pub dropped_given : List (ℕ × Snap) → Option Value → Result (List ℕ) Fault
dropped_given pairs None = Ok []
dropped_given pairs (Some v) = bytes_in pairs v

abbrev pub tables_of : List (ℕ × Snap) → Option Value → Option Value → Result (List ℕ × List ℕ) Fault
tables_of pairs table delete = do
  table ← table_given pairs table
  dropped ← dropped_given pairs delete
  Ok (table, dropped)

-- an answer, with the bytes of vectors as lists
abbrev pub pair_answered : Outcome (Vec ℕ × Vec ℕ) → Outcome (List ℕ × List ℕ)
pair_answered (outcome.Done pair) = outcome.Done (pair.0.items, pair.1.items)
pair_answered (outcome.Refused f) = outcome.Refused f

-- the bytes, mapped by what is given
abbrev pub translation : List (ℕ × Snap) → Option Value → Option Value → List ℕ → Result (List ℕ) Fault
translation pairs table delete bytes = do
  tables ← tables_of pairs table delete
  Ok (translated tables.0 tables.1 bytes)

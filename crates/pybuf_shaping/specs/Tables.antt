-- Bytes mapped by a table of 256 bytes.
use Rattle.std.specs.Prelude.{ℕ, Bool, ◌==◌, not, List, ◌∷◌, length, map, slice_index, Result, Ok, Err, if◌then◌else◌}
use Rattle.std.specs.List.{list_any, filter, range_with_len}
use Rattle.pybuf_value.specs.declared.faults.Fault.{Fault}
use Rattle.pybuf_value.specs.declared.faults.Fault.TheVariants as fault

-- the bytes from 0 to 255, in order: the table that maps each byte to itself
unfoldable pub all_bytes : List ℕ
all_bytes = range_with_len 0 256

-- whether a byte is one of these bytes
abbrev pub is_among : List ℕ → ℕ → Bool
is_among bytes b = list_any (λ other. other == b) bytes

-- bytes without those that are dropped, each mapped by its entry of the table
abbrev pub translated : List ℕ → List ℕ → List ℕ → List ℕ
translated table dropped bytes = map (slice_index table) (filter (λ b. not (is_among dropped b)) bytes)

-- the byte at the place where `from` first has this byte, or the byte itself if `from` lacks it
abbrev pub counterpart : List ℕ → List ℕ → ℕ → ℕ
counterpart (f ∷ from) (t ∷ to) b = if f == b then t else counterpart from to b
counterpart _ _ b = b

-- the table that maps each byte to its counterpart
abbrev pub table_of : List ℕ → List ℕ → Result (List ℕ) Fault
table_of from to = if length from == length to then Ok (map (counterpart from to) all_bytes) else Err fault.Value

-- Edits that add bytes. While a view is unreleased, an edit that asks for another length is refused with
-- `BufferError`.
use Rattle.std.specs.Prelude.{ℕ, ◌*◌, ◌^◌, ◌==◌, not, List, [], ◌∷◌, ◌++◌, length, nat_lt, Result, Ok, if◌then◌else◌}
use Rattle.pybuf_value.specs.declared.faults.Fault.{Fault}
use Rattle.pybuf_value.specs.declared.faults.Fault.TheVariants as fault
use Rattle.pybuf_value.specs.declared.values.Value.{Value}
use Rattle.pybuf_value.specs.Refusing.{◌>>=◌, unless}
use Rattle.pybuf_value.specs.Numbers.{count_in, byte_in, times}
use Rattle.pybuf_value.specs.Snaps.{bytes_in, like_in}
use Rattle.pybuf_index.specs.Places.{saturated_place}
use Rattle.pybuf_slice.specs.Edits.{replaced_range, repeated_list, is_one}
use Rattle.pybuf_command.specs.declared.commands.LocalReply.{LocalReply}
use Rattle.pybuf_command.specs.declared.commands.LocalReply.TheVariants as reply
use Rattle.pybuf_state.specs.Exporter.{Exporter}
use Rattle.pybuf_state.specs.Resizing.{resizable}
use Rattle.pybuf_state.specs.Loans.{Lent, snaps_of}
use Rattle.pybuf_command.specs.Kinds.{of_byte_array}
use Rattle.pybuf_verbs_edits.specs.Common.{with_bytes, is_itself}

-- ---- `append`: a byte at the end

abbrev pub appended : Exporter → Value → Result (Exporter × LocalReply) Fault
appended e v = do
  byte ← byte_in v
  _ ← resizable e
  Ok (with_bytes e (e.bytes ++ byte ∷ []))

abbrev pub append_of_own : Exporter → Value → Result (Exporter × LocalReply) Fault
append_of_own e v = of_byte_array e.kind (appended e v)

-- ---- `insert`: a byte before the place that is nearest to an index, and a negative index counts from the end

abbrev pub inserted : Exporter → Value → Value → Result (Exporter × LocalReply) Fault
inserted e index v = do
  number ← count_in index
  byte ← byte_in v
  _ ← resizable e
  Ok (with_bytes e (replaced_range e.bytes (saturated_place (length e.bytes) number) (saturated_place (length e.bytes) number) (byte ∷ [])))

abbrev pub insert_of_own : Exporter → Value → Value → Result (Exporter × LocalReply) Fault
insert_of_own e index v = of_byte_array e.kind (inserted e index v)

-- ---- the bytes, repeated n times

-- The length must not pass the greatest word.
abbrev pub repeated : Exporter → ℕ → Result (Exporter × LocalReply) Fault
repeated e n = do
  _ ← resizable e
  _ ← unless (not (nat_lt (length e.bytes * n) (2 ^ 63))) fault.Overflow
  Ok (with_bytes e (repeated_list n e.bytes))

-- An empty bytearray stays empty, however often it is repeated.
abbrev pub repeated_unless_empty : Exporter → ℕ → Result (Exporter × LocalReply) Fault
repeated_unless_empty e n = if length e.bytes == 0 then Ok (e, reply.Ok) else repeated e n

-- `imul`: by 1 the bytearray stays as it is, and a negative number counts as 0.
abbrev pub multiplied : Exporter → Value → Result (Exporter × LocalReply) Fault
multiplied e count = do
  number ← count_in count
  if is_one number then Ok (e, reply.Ok) else repeated_unless_empty e (times number)

abbrev pub imul_of_own : Exporter → Value → Result (Exporter × LocalReply) Fault
imul_of_own e count = of_byte_array e.kind (multiplied e count)

-- ---- `extend`: bytes at the end

abbrev pub extended : Exporter → Value → List Lent → Result (Exporter × LocalReply) Fault
extended e v lents = do
  bytes ← bytes_in (snaps_of lents) v
  _ ← resizable e
  Ok (with_bytes e (e.bytes ++ bytes))

-- A bytearray that is extended by itself is then twice what it was.
abbrev pub extended_or_doubled : Exporter → Value → List Lent → Result (Exporter × LocalReply) Fault
extended_or_doubled e v lents = if is_itself v lents then repeated_unless_empty e 2 else extended e v lents

abbrev pub extend_of_own : Exporter → Value → List Lent → Result (Exporter × LocalReply) Fault
extend_of_own e v lents = of_byte_array e.kind (extended_or_doubled e v lents)

-- ---- `iadd`: bytes that lie one after the other are added at the end, but never the bytearray's own

abbrev pub added : Exporter → Value → List Lent → Result (Exporter × LocalReply) Fault
added e v lents = do
  bytes ← like_in (snaps_of lents) v
  _ ← unless (is_itself v lents) fault.Buffer
  _ ← resizable e
  Ok (with_bytes e (e.bytes ++ bytes))

abbrev pub iadd_of_own : Exporter → Value → List Lent → Result (Exporter × LocalReply) Fault
iadd_of_own e v lents = of_byte_array e.kind (added e v lents)

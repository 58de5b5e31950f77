-- Which edits take bytes out at the front of a bytearray, and which add bytes at its end.
use Rattle.std.specs.Prelude.{◌≡◌, ◌⊎◌, ℕ, ◌==◌, Bool, true, false, not, List, [], ◌∷◌, length, reverse, Option, Result, Ok, Err}
use Rattle.std.specs.List.{position_or_len}
use Rattle.pybuf_value.specs.declared.faults.Fault.{Fault}
use Rattle.pybuf_value.specs.declared.faults.Fault.TheVariants as fault
use Rattle.pybuf_value.specs.declared.values.PySlice.{PySlice}
use Rattle.pybuf_value.specs.declared.values.Value.{Value}
use Rattle.pybuf_value.specs.declared.values.Value.TheVariants as value
use Rattle.pybuf_value.specs.Refusing.{◌>>=◌}
use Rattle.pybuf_value.specs.Numbers.{byte_in}
use Rattle.pybuf_index.specs.Parts.{saturated_parts_of, picks_of}
use Rattle.pybuf_index.specs.Places.{entry_in}
use Rattle.pybuf_index.specs.Runs.{rising}
use Rattle.pybuf_command.specs.declared.commands.Verb.{Verb}
use Rattle.pybuf_command.specs.declared.commands.Verb.TheVariants as verb
use Rattle.pybuf_memoryview.specs.Items.{index_in}
use Rattle.pybuf_state.specs.Exporter.{Exporter}
use Rattle.pybuf_state.specs.Loans.{Lent}
use Rattle.pybuf_verbs_edits.specs.Common.{is_itself}
use Rattle.pybuf_verbs_edits.specs.Shrinking.{count_or_last}

-- ---- at the front

-- the places of the bytes that `pop` takes out
abbrev pub popped_places : Exporter → Option Value → Result (List ℕ) Fault
popped_places e index = do
  number ← count_or_last index
  place ← entry_in (length e.bytes) number
  Ok (place ∷ [])

-- the place of the byte that `remove` takes out
abbrev pub removed_places : Exporter → Value → Result (List ℕ) Fault
removed_places e v = do
  byte ← byte_in v
  Ok (position_or_len (λ b. b == byte) e.bytes ∷ [])

-- The places of the bytes that `del` takes out, in the order in which the key names them. The key is an index
-- or a slice.
abbrev pub indexed_places : Exporter → Value → Result (List ℕ) Fault
indexed_places e key = do
  index ← index_in key
  place ← entry_in (length e.bytes) index
  Ok (place ∷ [])

abbrev pub sliced_places : Exporter → PySlice → Result (List ℕ) Fault
sliced_places e slice = do
  parts ← saturated_parts_of slice
  Ok (picks_of (length e.bytes) parts)

abbrev pub deleted_places : Exporter → Value → Result (List ℕ) Fault
deleted_places e (value.Slice slice) = sliced_places e slice
deleted_places e key = indexed_places e key

-- The places of the bytes that an edit takes out. They are defined for these edits alone.
abbrev pub taken_places : Exporter → Verb → Result (List ℕ) Fault
taken_places e (verb.Pop index) = popped_places e index
taken_places e (verb.Remove v) = removed_places e v
taken_places e (verb.Del key) = deleted_places e key
taken_places e _ = Err fault.UnknownName

-- The places are the first n, one after another, up or down.
abbrev pub AreFirst : ℕ → List ℕ → Type 0
AreFirst n places = (places ≡ rising 0 1 n) ⊎ (places ≡ reverse (rising 0 1 n))

-- An edit takes out just the first n bytes.
abbrev pub TakesFirst : Result (List ℕ) Fault → ℕ → Type 0
TakesFirst (Ok places) n = AreFirst n places
TakesFirst (Err f) n = ⊥

-- ---- at the end

-- whether an edit adds bytes at the end: `append`, `iadd`, and `extend` by anything but itself
abbrev pub grows_at_end : Verb → List Lent → Bool
grows_at_end (verb.Append v) lents = true
grows_at_end (verb.Extend v) lents = not (is_itself v lents)
grows_at_end (verb.IAdd v) lents = true
grows_at_end _ lents = false

-- ---- edits that leave the length as it is

-- Whether an edit can leave the length as it is. `set` by a slice does so if it gets as many bytes as it picks,
-- `imul` if the number is 1 or there is no byte, and `extend` by itself if there is no byte; `reverse` and
-- `copy` always do. Every other edit resizes, even if there are as many bytes afterwards as before.
abbrev pub can_leave_length : Verb → List Lent → Bool
can_leave_length (verb.Extend v) lents = is_itself v lents
can_leave_length (verb.IMul count) lents = true
can_leave_length verb.Reverse lents = true
can_leave_length verb.Copy lents = true
can_leave_length (verb.Set (value.Slice slice) v) lents = true
can_leave_length _ lents = false

-- Calls on bytes and bytearrays with plain arguments. They have no values, no loans and no replies.
use Rattle.std.specs.Prelude.{◌≡◌, ◌<◌, ◌≤◌, IsOk, MatchOption, ℕ, suc, Bool, ℤ, negsuc, List, [], ◌∷◌, ◌++◌, length, take, drop, nat_lt, slice_get, slice_index, slice_set, Option, None, Some, Result, Ok, Err}
use Rattle.std.specs.Borrow.{Bor}
use Rattle.std.specs.Option.{option_and_then}
use Rattle.std.specs.Result.{result_map_both}
use Rattle.std.specs.Global.{Vec}
use Rattle.pybuf_value.specs.declared.faults.Fault.{Fault}
use Rattle.pybuf_value.specs.declared.halt.Halt.{Halt}
use Rattle.pybuf_value.specs.declared.halt.Halt.TheVariants as halt
use Rattle.pybuf_value.specs.declared.faults.Fault.TheVariants as fault
use Rattle.pybuf_value.specs.Halting.{Answered, Settled}
use Rattle.pybuf_value.specs.Refusing.{◌>>=◌, unless}
use Rattle.pybuf_value.specs.Making.{slice_of}
use Rattle.pybuf_index.specs.Parts.{saturated_parts_of, picks_of}
use Rattle.pybuf_index.specs.Places.{saturated_place, item_place, entry_in}
use Rattle.pybuf_slice.specs.Edits.{replaced_range}
use Rattle.pybuf_slice.specs.Reads.{elements_at}
use Rattle.pybuf_command.specs.Kinds.{of_byte_array}
use Rattle.pybuf_state.specs.Exporter.{Exporter}
use Rattle.pybuf_state.specs.Resizing.{resizable, reservable}

-- ---- answers

-- The answer is what a definition says, and the exporter is the one that it says. If the definition refuses,
-- the answer is that refusal. If it doesn't, memory may still run out. In both cases the exporter is as before.
abbrev pub Settles : {X : Type 0} → Result (Exporter × X) Fault → Exporter → Result X Halt → Exporter → Type 0
Settles wanted old result new = Settled result (λ x. (new, x)) (new ≡ old) (IsOk wanted × (new ≡ old)) wanted

-- the same for a call that takes no memory
abbrev pub SettlesAtOnce : {X : Type 0} → Result (Exporter × X) Fault → Exporter → Result X Halt → Exporter → Type 0
SettlesAtOnce wanted old result new = Settled result (λ x. (new, x)) (new ≡ old) ⊥ wanted

-- the same of a call that gives a vector of bytes
abbrev pub SettlesBytes : Result (Exporter × List ℕ) Fault → Exporter → Result (Vec ℕ) Halt → Exporter → Type 0
SettlesBytes wanted old result new = Settles wanted old (result_map_both (λ bytes. bytes.items) (λ halt. halt) result) new

-- the same for one that takes no memory
abbrev pub SettlesBytesAtOnce : Result (Exporter × List ℕ) Fault → Exporter → Result (Vec ℕ) Halt → Exporter → Type 0
SettlesBytesAtOnce wanted old result new = SettlesAtOnce wanted old (result_map_both (λ bytes. bytes.items) (λ halt. halt) result) new

-- the same of a call that answers with a fault alone
abbrev pub SettlesFault : {X : Type 0} → Result (Exporter × X) Fault → Exporter → Result X Fault → Exporter → Type 0
SettlesFault wanted old (Ok x) new = wanted ≡ Ok (new, x)
SettlesFault wanted old (Err f) new = (wanted ≡ Err f) × (new ≡ old)

-- The answer is these bytes, or the refusal, unless memory runs out.
abbrev pub GivesBytes : Result (List ℕ) Fault → Result (Vec ℕ) Halt → Type 0
GivesBytes wanted result = Answered result (λ bytes. bytes.items) wanted

-- ---- calls that read

-- the byte that a number names, if there is one, and a negative number counts from the end
abbrev pub byte_at : List ℕ → ℤ → Option ℕ
byte_at bytes index = option_and_then (slice_get bytes) (item_place (length bytes) index)

-- The first bytes are lent, as many as are asked for, and None stands where there are fewer.
abbrev pub LendsFront : List ℕ → ℕ → Option (Bor (List ℕ)) → Type 0
LendsFront bytes count result = MatchOption result (length bytes < count) (λ front. (count ≤ length bytes) × (front.now ≡ take count bytes))

-- the bytes that a slice picks
abbrev pub bytes_of_slice : List ℕ → Option ℤ → Option ℤ → Option ℤ → Result (List ℕ) Fault
bytes_of_slice bytes start stop step = do
  parts ← saturated_parts_of (slice_of start stop step)
  Ok (elements_at bytes (picks_of (length bytes) parts))

-- ---- calls that change something

-- Whether the number of bytes may change. Only a bytearray can be resized, and only if no view of it is
-- unreleased.
abbrev pub may_resize : Exporter → Result Bool Fault
may_resize e = of_byte_array e.kind (resizable e)

-- other bytes in place of all bytes, in any number, if the exporter may be resized
abbrev pub resized_to : {X : Type 0} → Exporter → List ℕ → X → Result (Exporter × X) Fault
resized_to e bytes answer = do
  _ ← may_resize e
  Ok (record e { bytes = bytes }, answer)

-- one more byte at the end
abbrev pub pushed : Exporter → ℕ → Result (Exporter × Unit {0}) Fault
pushed e byte = resized_to e (e.bytes ++ byte ∷ []) tt

-- more bytes at the end
abbrev pub extended_by : Exporter → List ℕ → Result (Exporter × Unit {0}) Fault
extended_by e others = resized_to e (e.bytes ++ others) tt

-- bytes more, before the one at a place
abbrev pub put_before : Exporter → ℕ → List ℕ → Result (Exporter × Unit {0}) Fault
put_before e place others = resized_to e (replaced_range e.bytes place place others) tt

-- without the bytes from one place up to another
abbrev pub cut_out : Exporter → ℕ → ℕ → Result (Exporter × Unit {0}) Fault
cut_out e start end = resized_to e (replaced_range e.bytes start end []) tt

-- one more byte, before the place that is nearest to a number
abbrev pub inserted_at : Exporter → ℤ → ℕ → Result (Exporter × Unit {0}) Fault
inserted_at e index byte = resized_to e (replaced_range e.bytes (saturated_place (length e.bytes) index) (saturated_place (length e.bytes) index) (byte ∷ [])) tt

-- the bytes without the one at a place
abbrev pub without : List ℕ → ℕ → List ℕ
without bytes place = replaced_range bytes place (suc place) []

-- without the byte at a place, which is the answer
abbrev pub taken_out : Exporter → ℕ → Result (Exporter × ℕ) Fault
taken_out e place = resized_to e (without e.bytes place) (slice_index e.bytes place)

-- without the first bytes, as many as are asked for, which are the answer; where there are fewer, `IndexError`
abbrev pub front_taken : Exporter → ℕ → Result (Exporter × List ℕ) Fault
front_taken e count = do
  _ ← may_resize e
  _ ← unless (nat_lt (length e.bytes) count) fault.Index
  Ok (record e { bytes = drop count e.bytes }, take count e.bytes)

-- The bytes lose the one that a number names, and that byte is the answer.
abbrev pub removed_at : Exporter → ℤ → Result (Exporter × ℕ) Fault
removed_at e index = do
  _ ← may_resize e
  place ← entry_in (length e.bytes) index
  Ok (record e { bytes = without e.bytes place }, slice_index e.bytes place)

-- The bytes lose the one at a place, if there is one, and that byte is the answer.
abbrev pub out_at : Exporter → Option ℕ → Exporter × Option ℕ
out_at e None = (e, None)
out_at e (Some place) = (record e { bytes = without e.bytes place }, Some (slice_index e.bytes place))

-- The bytes lose the last one, if there is one, and that byte is the answer.
abbrev pub popped_last : Exporter → Result (Exporter × Option ℕ) Fault
popped_last e = do
  _ ← may_resize e
  Ok (out_at e (item_place (length e.bytes) (negsuc 0)))

-- the first `count` bytes, or all if there are fewer
abbrev pub truncated : Exporter → ℕ → Result (Exporter × Unit {0}) Fault
truncated e count = resized_to e (take count e.bytes) tt

-- the bytes behind the first `count`, or none if there are fewer
abbrev pub drained_front : Exporter → ℕ → Result (Exporter × Unit {0}) Fault
drained_front e count = resized_to e (drop count e.bytes) tt

-- no bytes
abbrev pub emptied : Exporter → Result (Exporter × Unit {0}) Fault
emptied e = resized_to e [] tt

-- no bytes, and those that there were are the answer
abbrev pub all_taken : Exporter → Result (Exporter × List ℕ) Fault
all_taken e = resized_to e [] e.bytes

-- the same bytes, if memory may be taken ahead for so many more
abbrev pub reserved : Exporter → ℕ → Result (Exporter × Unit {0}) Fault
reserved e more = of_byte_array e.kind (do
  _ ← reservable e more
  Ok (e, tt))

-- the same bytes, if they may get another place in memory
abbrev pub shrunk : Exporter → Result (Exporter × Unit {0}) Fault
shrunk e = resized_to e e.bytes tt

-- Another byte replaces the one that a number names. Unreleased views don't stop this.
abbrev pub put_at : Exporter → ℤ → ℕ → Result (Exporter × Unit {0}) Fault
put_at e index byte = of_byte_array e.kind (do
  place ← entry_in (length e.bytes) index
  Ok (record e { bytes = slice_set e.bytes place byte }, tt))

-- The call was stopped by just this refusal.
abbrev pub IsRefusal : {X : Type 0} → Result X Fault → Halt → Type 0
IsRefusal answer (halt.Refused f) = answer ≡ Err f
IsRefusal answer halt.NoMemory = ⊥

-- A bytearray as a queue: a write adds bytes at the end, and a read takes bytes from the front.
use Rattle.std.specs.Prelude.{◌≡◌, IsErr, MatchResult, ℕ, min, Bool, List, ◌++◌, length, take, drop, Result, Ok, Err}
use Rattle.std.specs.IoError.{error_kind}
use Rattle.std.specs.declared.io.Error.{Error}
use Rattle.std.specs.declared.io.ErrorKind.{ErrorKind}
use Rattle.std.specs.declared.io.ErrorKind.TheVariants.{OutOfMemory, ResourceBusy}
use Rattle.pybuf_value.specs.declared.faults.Fault.{Fault}
use Rattle.pybuf_value.specs.declared.halt.Halt.{Halt}
use Rattle.pybuf_value.specs.declared.halt.Halt.TheVariants as halt
use Rattle.pybuf_state.specs.Exporter.{Exporter}
use Rattle.pybuf_object.specs.Plain.{may_resize, resized_to}

-- ---- what a call does

-- A read takes as many bytes from the front as there is room for, and its answer is their number.
abbrev pub read_front : Exporter → ℕ → Result (Exporter × ℕ) Fault
read_front e room = resized_to e (drop (min room (length e.bytes)) e.bytes) (min room (length e.bytes))

-- A write adds all its bytes at the end, and its answer is their number.
abbrev pub written_behind : Exporter → List ℕ → Result (Exporter × ℕ) Fault
written_behind e bytes = resized_to e (e.bytes ++ bytes) (length bytes)

-- the room after `count` bytes of the front were read into its first places
abbrev pub filled_from : Exporter → List ℕ → ℕ → List ℕ
filled_from e room count = take count e.bytes ++ drop count room

-- all bytes of the front may be consumed, and none while their number may not change
abbrev pub consumable_by : Result Bool Fault → Exporter → ℕ
consumable_by (Ok _) e = length e.bytes
consumable_by (Err _) e = 0

abbrev pub consumable : Exporter → ℕ
consumable e = consumable_by (may_resize e) e

-- without this many bytes of the front, where their number may change, and else as before
abbrev pub consumed_by : Result Bool Fault → Exporter → ℕ → Exporter
consumed_by (Ok _) e amount = record e { bytes = drop amount e.bytes }
consumed_by (Err _) e amount = e

abbrev pub consumed : Exporter → ℕ → Exporter
consumed e amount = consumed_by (may_resize e) e amount

-- ---- how a call answers

-- A refusal is the error of a busy resource, and want of memory is the error of its own name.
abbrev pub kind_of : Halt → ErrorKind
kind_of (halt.Refused _) = ResourceBusy
kind_of halt.NoMemory = OutOfMemory

-- The answer is what a definition says, and the exporter is the one that it says. The kind of an error tells a
-- refusal from want of memory, which comes only if nothing is refused. After an error, the exporter is as
-- before.
abbrev pub SettlesAsWrite : Result (Exporter × ℕ) Fault → Exporter → Result ℕ Error → Exporter → Type 0
SettlesAsWrite wanted old (Ok count) new = wanted ≡ Ok (new, count)
SettlesAsWrite wanted old (Err error) new = MatchResult wanted (λ _. error_kind error ≡ OutOfMemory) (λ _. error_kind error ≡ ResourceBusy) × (new ≡ old)

-- the same for a call that takes no memory
abbrev pub SettlesAsRead : Result (Exporter × ℕ) Fault → Exporter → Result ℕ Error → Exporter → Type 0
SettlesAsRead wanted old (Ok count) new = wanted ≡ Ok (new, count)
SettlesAsRead wanted old (Err error) new = IsErr wanted × (error_kind error ≡ ResourceBusy) × (new ≡ old)

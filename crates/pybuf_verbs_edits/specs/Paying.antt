-- What an edit pays: how many bytes it moves to another place within, and what room it leaves before the bytes.
-- `before` and `after` count the bytes that were moved up to then. An edit that is refused, or for which there is no
-- memory, leaves room and counter as they were.
use Rattle.std.specs.Prelude.{◌≡◌, ◌≤◌, ℕ, ◌+◌, Bool, true, false, List, length, Option, Result, OnOk, OnErr}
use Rattle.pybuf_value.specs.declared.faults.Fault.{Fault}
use Rattle.pybuf_value.specs.declared.halt.Halt.{Halt}
use Rattle.pybuf_value.specs.declared.values.PySlice.{PySlice}
use Rattle.pybuf_value.specs.declared.values.Value.{Value}
use Rattle.pybuf_front.specs.FrontContent.{IsSpare}
use Rattle.pybuf_command.specs.declared.kinds.Subject.TheVariants as subject
use Rattle.pybuf_command.specs.declared.commands.Verb.{Verb}
use Rattle.pybuf_command.specs.declared.commands.LocalReply.{LocalReply}
use Rattle.pybuf_command.specs.declared.loans.Loan.{Loan}
use Rattle.pybuf_command.specs.Handles.{handles_read}
use Rattle.pybuf_state.specs.declared.parts.Parts.{Parts}
use Rattle.pybuf_state.specs.Answers.{exporter_of}
use Rattle.pybuf_state.specs.Loans.{lents_by, lents_of_value}
use Rattle.pybuf_verbs_edits.specs.Common.{is_itself}
use Rattle.pybuf_verbs_edits.specs.Counting.{TakesFirst, popped_places, removed_places, indexed_places, sliced_places, deleted_places, taken_places, grows_at_end, can_leave_length}

-- an edit that leaves the length as it was leaves the room
abbrev pub LengthKeepsRoom : Parts → Result LocalReply Halt → Parts → Type 0
LengthKeepsRoom old result new = OnOk result (length new.bytes.items ≡ length old.bytes.items → new.bytes.room ≡ old.bytes.room)

-- of any edit: at most as many bytes move as there are before and after together
pub record IsPaid (old : Parts) (before : ℕ) (result : Result LocalReply Halt) (new : Parts) (after : ℕ) : Type 0 where
  pub few : OnOk result (after ≤ before + (length old.bytes.items + length new.bytes.items))
  pub err_room : OnErr result (new.bytes.room ≡ old.bytes.room)
  pub err_counter : OnErr result (after ≡ before)

-- Of an edit that takes the bytes at these places out: where they are just the first n, none moves, and they are left
-- as room.
pub record FrontIsPaid (places : Result (List ℕ) Fault) (old : Parts) (before : ℕ) (result : Result LocalReply Halt) (new : Parts) (after : ℕ) : Type 0 where
  pub few : OnOk result (after ≤ before + (length old.bytes.items + length new.bytes.items))
  pub front_room : (n : ℕ) → TakesFirst places n → OnOk result (new.bytes.room ≡ old.bytes.room + n)
  pub front_counter : (n : ℕ) → TakesFirst places n → OnOk result (after ≡ before)
  pub err_room : OnErr result (new.bytes.room ≡ old.bytes.room)
  pub err_counter : OnErr result (after ≡ before)

-- so it is of `pop` at an index
abbrev pub PopIsPaid : Option Value → Parts → ℕ → Result LocalReply Halt → Parts → ℕ → Type 0
PopIsPaid index old before result new after = FrontIsPaid (popped_places (exporter_of old) index) old before result new after

-- of `remove`
abbrev pub RemoveIsPaid : Value → Parts → ℕ → Result LocalReply Halt → Parts → ℕ → Type 0
RemoveIsPaid v old before result new after = FrontIsPaid (removed_places (exporter_of old) v) old before result new after

-- of `del` by an index
abbrev pub DeleteByteIsPaid : Value → Parts → ℕ → Result LocalReply Halt → Parts → ℕ → Type 0
DeleteByteIsPaid key old before result new after = FrontIsPaid (indexed_places (exporter_of old) key) old before result new after

-- of `del` by a slice
abbrev pub DeleteSliceIsPaid : PySlice → Parts → ℕ → Result LocalReply Halt → Parts → ℕ → Type 0
DeleteSliceIsPaid slice old before result new after = FrontIsPaid (sliced_places (exporter_of old) slice) old before result new after

-- and of `del` by either
abbrev pub DeleteIsPaid : Value → Parts → ℕ → Result LocalReply Halt → Parts → ℕ → Type 0
DeleteIsPaid key old before result new after = FrontIsPaid (deleted_places (exporter_of old) key) old before result new after

-- Of an edit that adds bytes at the end: the room pays for the bytes that move, which are at most those that were
-- there, and afterwards there is no room, or less than there are bytes.
pub record EndIsPaid (old : Parts) (before : ℕ) (result : Result LocalReply Halt) (new : Parts) (after : ℕ) : Type 0 where
  pub counter : OnOk result (after + new.bytes.room ≤ before + old.bytes.room)
  pub few : OnOk result (after ≤ before + length old.bytes.items)
  pub spare : OnOk result (IsSpare new.bytes)
  pub err_room : OnErr result (new.bytes.room ≡ old.bytes.room)
  pub err_counter : OnErr result (after ≡ before)

-- Of one that adds the bytes of another, as before, or its own: its own move none, and where there are none the room
-- stays.
pub record ExtensionIsPaid (itself : Bool) (old : Parts) (before : ℕ) (result : Result LocalReply Halt) (new : Parts) (after : ℕ) : Type 0 where
  pub counter : itself ≡ false → OnOk result (after + new.bytes.room ≤ before + old.bytes.room)
  pub few : OnOk result (after ≤ before + length old.bytes.items)
  pub spare : itself ≡ false → OnOk result (IsSpare new.bytes)
  pub err_room : OnErr result (new.bytes.room ≡ old.bytes.room)
  pub err_counter : OnErr result (after ≡ before)
  pub still_room : itself ≡ true → LengthKeepsRoom old result new
  pub still_counter : itself ≡ true → OnOk result (after ≡ before)

-- the same by the value that names it
abbrev pub ValueIsPaid : Value → (ℕ → Option Loan) → Parts → ℕ → Result LocalReply Halt → Parts → ℕ → Type 0
ValueIsPaid v named old before result new after = ExtensionIsPaid (is_itself v (lents_of_value (exporter_of old) named v)) old before result new after

-- of an edit that puts bytes in place of others: where the length stays, room and counter stay
pub record PutIsPaid (old : Parts) (before : ℕ) (result : Result LocalReply Halt) (new : Parts) (after : ℕ) : Type 0 where
  pub few : OnOk result (after ≤ before + (length old.bytes.items + length new.bytes.items))
  pub err_room : OnErr result (new.bytes.room ≡ old.bytes.room)
  pub err_counter : OnErr result (after ≡ before)
  pub still_room : LengthKeepsRoom old result new
  pub still_counter : OnOk result (length new.bytes.items ≡ length old.bytes.items → after ≡ before)

-- Of an edit that takes the bytes at these places out, that adds bytes at the end or not, and that can leave the
-- length as it is or not: all that is said above.
pub record EditIsPaid (places : Result (List ℕ) Fault) (grows leaves : Bool) (old : Parts) (before : ℕ) (result : Result LocalReply Halt) (new : Parts) (after : ℕ) : Type 0 where
  pub few : OnOk result (after ≤ before + (length old.bytes.items + length new.bytes.items))
  pub front_room : (n : ℕ) → TakesFirst places n → OnOk result (new.bytes.room ≡ old.bytes.room + n)
  pub front_counter : (n : ℕ) → TakesFirst places n → OnOk result (after ≡ before)
  pub end_counter : grows ≡ true → OnOk result (after + new.bytes.room ≤ before + old.bytes.room)
  pub end_spare : grows ≡ true → OnOk result (IsSpare new.bytes)
  pub err_room : OnErr result (new.bytes.room ≡ old.bytes.room)
  pub err_counter : OnErr result (after ≡ before)
  pub still_room : leaves ≡ true → LengthKeepsRoom old result new
  pub still_counter : leaves ≡ true → OnOk result (length new.bytes.items ≡ length old.bytes.items → after ≡ before)

-- so it is of the edit of a verb, by what each handle is lent as
abbrev pub VerbIsPaid : Verb → (ℕ → Option Loan) → Parts → ℕ → Result LocalReply Halt → Parts → ℕ → Type 0
VerbIsPaid v named old before result new after =
    EditIsPaid (taken_places (exporter_of old) v) (grows_at_end v (lents_by (exporter_of old) named (handles_read subject.Own v)))
    (can_leave_length v (lents_by (exporter_of old) named (handles_read subject.Own v))) old before result new after

-- How many bytes a command moves, and how the room before the bytes changes.
use Rattle.std.specs.Prelude.{◌≡◌, ◌⊎◌, ℕ, ◌+◌, ◌<◌, ◌≤◌, Bool, true, false, List, [], ◌∷◌, ◌++◌, drop, length, Option, Result, Err, IsOk, IsErr}
use Rattle.pybuf_value.specs.declared.faults.Fault.{Fault}
use Rattle.pybuf_value.specs.declared.faults.Fault.TheVariants as fault
use Rattle.pybuf_value.specs.declared.halt.Halt.{Halt}
use Rattle.pybuf_command.specs.declared.kinds.Subject.{Subject}
use Rattle.pybuf_command.specs.declared.kinds.Subject.TheVariants as subject
use Rattle.pybuf_command.specs.declared.commands.Verb.{Verb}
use Rattle.pybuf_command.specs.declared.commands.LocalReply.{LocalReply}
use Rattle.pybuf_command.specs.declared.commands.LocalCommand.{LocalCommand}
use Rattle.pybuf_command.specs.declared.loans.Loan.{Loan}
use Rattle.pybuf_command.specs.Handles.{handles_read}
use Rattle.pybuf_state.specs.declared.parts.Parts.{Parts}
use Rattle.pybuf_state.specs.Answers.{exporter_of}
use Rattle.pybuf_state.specs.Exporter.{Exporter}
use Rattle.pybuf_state.specs.Loans.{Lent, lent_for_each, lents_by}
use Rattle.pybuf_verbs_edits.specs.Counting.{taken_places, TakesFirst, grows_at_end, can_leave_length}
use Rattle.pybuf_verbs_edits.specs.Edits.{is_edit}
use Rattle.pybuf_verbs_edits.specs.Paying.{EditIsPaid}
use Rattle.pybuf_exporter.specs.Step.{answer_of}
use Rattle.pybuf_exporter.specs.Stored.{StoredExporter}

-- ---- which commands change the ends of a bytearray

-- the places of the bytes that a command takes out
abbrev pub taken_by : Exporter → Subject → Verb → Result (List ℕ) Fault
taken_by e subject.Own v = taken_places e v
taken_by e _ v = Err fault.UnknownName

-- whether a command adds bytes at the end
abbrev pub grows_by : Subject → Verb → List Lent → Bool
grows_by subject.Own v lents = grows_at_end v lents
grows_by _ v lents = false

-- whether a command is an edit that can leave the length as it is
abbrev pub leaves_by : Subject → Verb → List Lent → Bool
leaves_by subject.Own v lents = can_leave_length v lents
leaves_by _ v lents = false

-- Whether a command is an edit. No other command changes the length.
abbrev pub edits_by : Subject → Verb → Bool
edits_by subject.Own v = is_edit v
edits_by _ v = false

-- what a command pays, by what each handle is lent as
abbrev pub CommandIsPaid : Subject → Verb → (ℕ → Option Loan) → Parts → ℕ → Result LocalReply Halt → Parts → ℕ → Type 0
CommandIsPaid s v named old before result new after =
    EditIsPaid (taken_by (exporter_of old) s v) (grows_by s v (lents_by (exporter_of old) named (handles_read s v)))
    (leaves_by s v (lents_by (exporter_of old) named (handles_read s v))) old before result new after

-- The command takes out just the first n bytes.
abbrev pub TakesFront : StoredExporter → LocalCommand → ℕ → Type 0
TakesFront c command n = TakesFirst (taken_by c.exporter command.subject command.verb) n

abbrev pub GrowsAtEnd : StoredExporter → LocalCommand → Type 0
GrowsAtEnd c command = grows_by command.subject command.verb (lent_for_each c.exporter command.loans (handles_read command.subject command.verb)) ≡ true

-- The command can leave the length as it is, and does so.
abbrev pub LeavesLength : StoredExporter → LocalCommand → StoredExporter → Type 0
LeavesLength old command new =
    (leaves_by command.subject command.verb (lent_for_each old.exporter command.loans (handles_read command.subject command.verb)) ≡ true)
    × (length new.exporter.bytes ≡ length old.exporter.bytes)

-- what a command answers, which its effect gives
abbrev pub answer_to : StoredExporter → LocalCommand → Result (Exporter × LocalReply) Fault
answer_to c command = answer_of c.exporter command.subject command.verb command.loans

-- How many bytes a command moves, and what room is left, unless memory runs out. The counter rises by 1 for
-- each byte that is moved to another place in the same memory. If a command that isn't refused takes out the
-- first n bytes, nothing is moved, and the room grows by n. If it adds bytes at the end, the rise of the counter
-- and the room after are together at most the room before, and afterwards either there is no room or there is
-- less room than there are bytes. Any command moves at most as many bytes as there are before and after
-- together. A command that doesn't resize leaves the counter and the room as they are. Such a command is
-- refused, or is no edit, or is an edit that can leave the length as it is and does so.
pub record Moves (old : StoredExporter) (command : LocalCommand) (before : ℕ) (new : StoredExporter) (after : ℕ) : Type 0 where
  pub front_counter : (n : ℕ) → TakesFront old command n → IsOk (answer_to old command) → after ≡ before
  pub front_room : (n : ℕ) → TakesFront old command n → IsOk (answer_to old command) → new.room ≡ old.room + n
  pub end_counter : GrowsAtEnd old command → IsOk (answer_to old command) → after + new.room ≤ before + old.room
  pub end_spare : GrowsAtEnd old command → IsOk (answer_to old command) → (new.room ≡ 0) ⊎ (new.room < length new.exporter.bytes)
  pub few : after ≤ before + (length old.exporter.bytes + length new.exporter.bytes)
  pub still_counter : LeavesLength old command new → IsOk (answer_to old command) → after ≡ before
  pub still_room : LeavesLength old command new → IsOk (answer_to old command) → new.room ≡ old.room
  pub refused_counter : IsErr (answer_to old command) → after ≡ before
  pub refused_room : IsErr (answer_to old command) → new.room ≡ old.room
  pub kept_counter : edits_by command.subject command.verb ≡ false → after ≡ before
  pub kept_room : edits_by command.subject command.verb ≡ false → new.room ≡ old.room

-- ---- queues

-- What it may cost to add bytes at the end: the bytes that are moved and the room after are together at most the room
-- before.
abbrev pub PaysAtEnd : StoredExporter → ℕ → StoredExporter → ℕ → Type 0
PaysAtEnd old before new after = after + new.room ≤ before + old.room

-- What it may cost to take out the first bytes, as many as `cut` says: none is moved, and they are left as room.
abbrev pub LeavesRoom : StoredExporter → ℕ → ℕ → StoredExporter → ℕ → Type 0
LeavesRoom old cut before new after = (new.room ≡ old.room + cut) × (after ≡ before)

-- A call on a queue is a command, or a call by plain arguments that adds bytes at the end or takes out the first.
pub data QueueCall : Type 0 where
  Command : (command : LocalCommand) → QueueCall
  Append : (bytes : List ℕ) → QueueCall
  DropFront : (count : ℕ) → QueueCall

-- A call on a queue that isn't refused. It takes out just the first `cut` bytes, or it adds bytes at the end, and it
-- moves no more than it may. A command says so by `Moves`. A call by plain arguments says so by the two clauses that it
-- owes.
abbrev pub IsQueueStep : QueueCall → ℕ → StoredExporter → ℕ → StoredExporter → ℕ → Type 0
IsQueueStep (Command command) cut old before new after =
    IsOk (answer_to old command)
    × (TakesFront old command cut ⊎ (GrowsAtEnd old command × (cut ≡ 0)))
    × Moves old command before new after
IsQueueStep (Append bytes) cut old before new after =
    (cut ≡ 0) × (new.exporter ≡ record old.exporter { bytes = old.exporter.bytes ++ bytes }) × PaysAtEnd old before new after
IsQueueStep (DropFront count) cut old before new after =
    (cut ≡ count) × (new.exporter ≡ record old.exporter { bytes = drop count old.exporter.bytes }) × LeavesRoom old count before new after

-- Such calls one after another. Together they take out `cut` bytes.
abbrev pub IsQueueRun : List QueueCall → ℕ → StoredExporter → ℕ → StoredExporter → ℕ → Type 0
IsQueueRun [] cut old before new after = (cut ≡ 0) × (new ≡ old) × (after ≡ before)
IsQueueRun (call ∷ calls) cut old before new after =
    (first : ℕ) × (others : ℕ) × (between : StoredExporter) × (count : ℕ)
    × (cut ≡ first + others)
    × IsQueueStep call first old before between count
    × IsQueueRun calls others between count new after

-- In any run of calls that take bytes out at the front or add them at the end, commands and others in any order, the
-- counter rises by at most the room at first plus the number of bytes taken out.
abbrev pub QueuesMoveFewBytes : Type 0
QueuesMoveFewBytes =
    (calls : List QueueCall) (cut : ℕ) (old : StoredExporter) (before : ℕ) (new : StoredExporter) (after : ℕ)
    → IsQueueRun calls cut old before new after → after ≤ before + (old.room + cut)

-- The numbers that calls answer.
use Rattle.std.specs.Prelude.{ℕ, Option, Some, None, Result, Ok, Err}
use Rattle.pybuf_value.specs.declared.faults.Fault.{Fault}
use Rattle.pybuf_value.specs.declared.faults.Fault.TheVariants as fault
use Rattle.pybuf_crossing.specs.declared.rooms.Handed.{Handed}
use Rattle.pybuf_crossing.specs.declared.rooms.Handed.TheVariants as handed

-- the number of a refusal, by Python's exception
abbrev pub fault_number : Fault → ℕ
fault_number fault.Index = 16
fault_number fault.Value = 17
fault_number fault.Kind = 18
fault_number fault.Buffer = 19
fault_number fault.Struct = 20
fault_number fault.Overflow = 21
fault_number fault.NotImplemented = 22
fault_number fault.UnknownName = 23

-- the number of a reply to one command, which is 0 or that of its refusal
abbrev pub answer_number : Option Fault → ℕ
answer_number None = 0
answer_number (Some fault) = fault_number fault

-- the number of a result, which is 0 or that of its refusal
abbrev pub result_number : {X : Type 0} → Result X Fault → ℕ
result_number (Ok x) = 0
result_number (Err fault) = fault_number fault

-- the number that says what became of bytes that were asked for
abbrev pub handed_number : Handed → ℕ
handed_number handed.Whole = 0
handed_number handed.NoMemory = 1
handed_number handed.TooSmall = 3
handed_number handed.Nothing = 5

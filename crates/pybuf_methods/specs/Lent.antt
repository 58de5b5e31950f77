-- Bytes of arguments: those that may be missing, those of many arguments, and those in a vector.
use Rattle.std.specs.Prelude.{ℕ, List, map, Option, Some, None, Result, Ok, Err}
use Rattle.pybuf_value.specs.declared.faults.Fault.{Fault}
use Rattle.pybuf_value.specs.declared.faults.Fault.TheVariants as fault
use Rattle.pybuf_value.specs.declared.halt.Halt.{Halt}
use Rattle.pybuf_value.specs.Halting.{Answered}
use Rattle.pybuf_value.specs.declared.snaps.Snap.{Snap}
use Rattle.pybuf_value.specs.Snaps.{string_of_named}
use Rattle.std.specs.Global.{Vec}
use Rattle.pybuf_value.specs.declared.lent.Lent.{Lent}
use Rattle.pybuf_value.specs.Lent.{lent_bytes}

abbrev pub lent_option : Option Lent → Option (List ℕ)
lent_option (Some l) = Some (lent_bytes l)
lent_option None = None

-- a result is these bytes if any are wanted, or their refusal; if memory runs out, nothing is said
abbrev pub LendsSome : Result (Option (List ℕ)) Fault → Result (Option Lent) Halt → Type 0
LendsSome wanted result = Answered result lent_option wanted

-- the bytes of Python's `bytes` or `bytearray`; any other value is refused
abbrev pub string_or : Option (List ℕ) → Result (List ℕ) Fault
string_or (Some bytes) = Ok bytes
string_or None = Err fault.Kind

abbrev pub string_named : Option Snap → Result (List ℕ) Fault
string_named None = Err fault.UnknownName
string_named (Some snap) = string_or (string_of_named (Some snap))

-- the same for bytes in a vector
abbrev pub Reads : Result (List ℕ) Fault → Result (Vec ℕ) Halt → Type 0
Reads wanted result = Answered result (λ bytes. bytes.items) wanted

-- the same for the bytes of many arguments
abbrev pub LendsEach : Result (List (List ℕ)) Fault → Result (Vec Lent) Halt → Type 0
LendsEach wanted result = Answered result (λ lents. map lent_bytes lents.items) wanted

-- Bytes that are lent from where they lie, or that were put together.
use Rattle.std.specs.Prelude.{◌≡◌, ℕ, List, Option, Some, None, Result, Ok, Err}
use Rattle.pybuf_value.specs.declared.faults.Fault.{Fault}
use Rattle.pybuf_value.specs.declared.halt.Halt.{Halt}
use Rattle.pybuf_value.specs.Halting.{Answered}
use Rattle.pybuf_value.specs.declared.snaps.Snap.{Snap}
use Rattle.pybuf_value.specs.declared.snaps.SnapKind.{SnapKind}
use Rattle.pybuf_value.specs.declared.lent.Lent.{Lent}
use Rattle.pybuf_value.specs.declared.lent.Lent.TheVariants as lent

-- the bytes
abbrev pub lent_bytes : Lent → List ℕ
lent_bytes (lent.Lies bytes) = bytes.now
lent_bytes (lent.Gathered bytes) = bytes.items

-- a result is these bytes, or their refusal; if memory runs out, nothing is said
abbrev pub Lends : Result (List ℕ) Fault → Result Lent Halt → Type 0
Lends wanted result = Answered result lent_bytes wanted

-- what kind of thing a handle names
abbrev pub kind_of_named : Option Snap → Option SnapKind
kind_of_named (Some snap) = Some snap.kind
kind_of_named None = None

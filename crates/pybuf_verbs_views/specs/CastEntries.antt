-- Entries of a shape, given together with their product.
use Rattle.std.specs.Prelude.{ℕ, List, Result}
use Rattle.pybuf_value.specs.declared.faults.Fault.{Fault}
use Rattle.pybuf_value.specs.declared.halt.Halt.{Halt}
use Rattle.pybuf_value.specs.Halting.{Answered}
use Rattle.pybuf_desc.specs.Layouts.{product}

-- The entries that are given are those of a definition, and a refusal is its refusal.
abbrev pub GivesEntries : Result (List ℕ) Fault → Result (List ℕ × ℕ) Halt → Type 0
GivesEntries wanted result = Answered result (λ given. given.0) wanted

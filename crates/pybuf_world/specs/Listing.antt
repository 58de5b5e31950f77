-- The exporters of a world, without the room before their bytes.
use Rattle.std.specs.Prelude.{ℕ, List, map, set, Option, Some, None, Result, Ok, Err}
use Rattle.std.specs.Option.{option_map, option_copied}
use Rattle.std.specs.Borrow.{Bor}
use Rattle.pybuf_value.specs.declared.faults.Fault.{Fault}
use Rattle.pybuf_value.specs.declared.faults.Fault.TheVariants as fault
use Rattle.pybuf_state.specs.Exporter.{Exporter, released_in}
use Rattle.pybuf_exporter.specs.Stored.{StoredExporter}

abbrev pub exporters_of : List StoredExporter → List Exporter
exporters_of stored = map (λ s. s.exporter) stored

-- an exporter that is lent, if there is one
abbrev pub lent_exporter : Option (Bor StoredExporter) → Option Exporter
lent_exporter lender = option_map (λ s. s.exporter) (option_copied lender)

-- the exporters after a release changed the one that has this number
abbrev pub with_released : List Exporter → ℕ → Result Exporter Fault → Result (List Exporter) Fault
with_released es i (Ok e) = Ok (set es i e)
with_released es i (Err f) = Err f

abbrev pub released_among : List Exporter → ℕ → ℕ → Option Exporter → Result (List Exporter) Fault
released_among es i k (Some e) = with_released es i (released_in e k)
released_among es i k None = Err fault.UnknownName

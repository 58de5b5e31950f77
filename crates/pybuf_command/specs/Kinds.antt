-- Which exporters may be written, and which commands only a bytearray has.
use Rattle.std.specs.Prelude.{Bool, true, false, Result, Err}
use Rattle.pybuf_value.specs.declared.faults.Fault.{Fault}
use Rattle.pybuf_value.specs.declared.faults.Fault.TheVariants as fault
use Rattle.pybuf_command.specs.declared.kinds.ExporterKind.{ExporterKind}
use Rattle.pybuf_command.specs.declared.kinds.ExporterKind.TheVariants as kind

-- bytes are never written, and a vector isn't if it is read-only
abbrev pub holds_readonly : ExporterKind → Bool
holds_readonly kind.Bytes = true
holds_readonly kind.ByteArray = false
holds_readonly (kind.Vector readonly) = readonly

-- only a bytearray has such a command; any other exporter refuses it
abbrev pub of_byte_array : {X : Type 0} → ExporterKind → Result X Fault → Result X Fault
of_byte_array kind.ByteArray row = row
of_byte_array _ row = Err fault.UnknownName

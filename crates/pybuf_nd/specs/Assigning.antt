-- Bytes that are assigned to a view.
use Rattle.std.specs.Prelude.{ℕ, ◌==◌, not, List, length, Result, Ok}
use Rattle.pybuf_value.specs.declared.faults.Fault.{Fault}
use Rattle.pybuf_value.specs.declared.faults.Fault.TheVariants as fault
use Rattle.pybuf_value.specs.Refusing.{◌>>=◌, unless}
use Rattle.pybuf_desc.specs.Layouts.{Layout}
use Rattle.pybuf_memoryview.specs.Orders.{nbytes_of}
use Rattle.pybuf_state.specs.Exporter.{Exporter}
use Rattle.pybuf_verbs_writes.specs.Laid.{laid}

-- The exporter after these bytes replace those of the view's items, in order. The call is refused if the view
-- can only be read, and then if its items have another number of bytes.
abbrev pub bytes_assigned : Exporter → Layout → List ℕ → Result Exporter Fault
bytes_assigned e target content = do
  _ ← unless target.readonly fault.Kind
  _ ← unless (not (length content == nbytes_of target)) fault.Value
  Ok (record e { bytes = laid e.bytes target.itemsize target.starts content })

-- `get` of a view by a slice: a new view of the items that the slice picks along the first dimension.
use Rattle.std.specs.Prelude.{ℕ, Result, Ok}
use Rattle.pybuf_value.specs.declared.faults.Fault.{Fault}
use Rattle.pybuf_value.specs.declared.values.PySlice.{PySlice}
use Rattle.pybuf_value.specs.Refusing.{◌>>=◌}
use Rattle.pybuf_index.specs.Parts.{saturated_parts_of}
use Rattle.pybuf_desc.specs.Slices.{slice_of}
use Rattle.pybuf_command.specs.declared.commands.LocalReply.{LocalReply}
use Rattle.pybuf_memoryview.specs.Items.{has_dimensions}
use Rattle.pybuf_state.specs.Exporter.{Exporter, live_layout, with_view}

abbrev pub slice_of_view : Exporter → ℕ → PySlice → Result (Exporter × LocalReply) Fault
slice_of_view e k slice = do
  layout ← live_layout e k
  _ ← has_dimensions layout
  parts ← saturated_parts_of slice
  Ok (with_view e (slice_of layout parts))

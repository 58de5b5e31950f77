-- `contig`: a new exporter is made of a copy of a view's items, one after the other.
use Rattle.std.specs.Prelude.{ℕ, Result, Ok}
use Rattle.pybuf_value.specs.declared.faults.Fault.{Fault}
use Rattle.pybuf_value.specs.Refusing.{◌>>=◌}
use Rattle.pybuf_command.specs.declared.commands.LocalReply.{LocalReply}
use Rattle.pybuf_command.specs.declared.commands.LocalReply.TheVariants as reply
use Rattle.pybuf_memoryview.specs.Snaps.{snap_of_copy}
use Rattle.pybuf_state.specs.Exporter.{Exporter, live_layout}

abbrev pub contiguous_of_view : Exporter → ℕ → Result (Exporter × LocalReply) Fault
contiguous_of_view e k = do
  layout ← live_layout e k
  Ok (e, reply.Fresh (snap_of_copy e.bytes layout))

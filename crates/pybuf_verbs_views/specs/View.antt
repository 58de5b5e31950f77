-- `view`: a new view of the subject.
use Rattle.std.specs.Prelude.{ℕ, Result, Ok}
use Rattle.pybuf_value.specs.declared.faults.Fault.{Fault}
use Rattle.pybuf_value.specs.Refusing.{◌>>=◌}
use Rattle.pybuf_command.specs.declared.commands.LocalReply.{LocalReply}
use Rattle.pybuf_state.specs.Exporter.{Exporter, whole_layout, live_layout, with_view}

-- `view` of an exporter: the view of all its bytes
abbrev pub view_of_own : Exporter → Result (Exporter × LocalReply) Fault
view_of_own e = Ok (with_view e (whole_layout e))

-- `view` of a view: a view of the same items
abbrev pub view_of_view : Exporter → ℕ → Result (Exporter × LocalReply) Fault
view_of_view e k = do
  layout ← live_layout e k
  Ok (with_view e layout)

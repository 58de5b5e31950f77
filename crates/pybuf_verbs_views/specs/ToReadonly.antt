-- `toreadonly`: a new view of the same items, which can only be read.
use Rattle.std.specs.Prelude.{ℕ, true, Result, Ok}
use Rattle.pybuf_value.specs.declared.faults.Fault.{Fault}
use Rattle.pybuf_value.specs.Refusing.{◌>>=◌}
use Rattle.pybuf_command.specs.declared.commands.LocalReply.{LocalReply}
use Rattle.pybuf_state.specs.Exporter.{Exporter, live_layout, with_view}

abbrev pub toreadonly_of_view : Exporter → ℕ → Result (Exporter × LocalReply) Fault
toreadonly_of_view e k = do
  layout ← live_layout e k
  Ok (with_view e (record layout { readonly = true }))

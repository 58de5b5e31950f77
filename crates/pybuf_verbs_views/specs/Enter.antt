-- `enter`: the reply is the view itself, which must not be released.
use Rattle.std.specs.Prelude.{ℕ, Result, Ok}
use Rattle.pybuf_value.specs.declared.faults.Fault.{Fault}
use Rattle.pybuf_value.specs.Refusing.{◌>>=◌}
use Rattle.pybuf_command.specs.declared.commands.LocalReply.{LocalReply}
use Rattle.pybuf_command.specs.declared.commands.LocalReply.TheVariants as reply
use Rattle.pybuf_state.specs.Exporter.{Exporter, live_layout}

abbrev pub enter_of_view : Exporter → ℕ → Result (Exporter × LocalReply) Fault
enter_of_view e k = do
  _ ← live_layout e k
  Ok (e, reply.Itself)

-- `release`: the view is released. A second `release` is allowed, and changes nothing.
use Rattle.std.specs.Prelude.{ℕ, Result, Ok}
use Rattle.pybuf_value.specs.declared.faults.Fault.{Fault}
use Rattle.pybuf_value.specs.Refusing.{◌>>=◌}
use Rattle.pybuf_command.specs.declared.commands.LocalReply.{LocalReply}
use Rattle.pybuf_command.specs.declared.commands.LocalReply.TheVariants as reply
use Rattle.pybuf_state.specs.Exporter.{Exporter, released_in}

abbrev pub release_of_view : Exporter → ℕ → Result (Exporter × LocalReply) Fault
release_of_view e k = do
  after ← released_in e k
  Ok (after, reply.Ok)

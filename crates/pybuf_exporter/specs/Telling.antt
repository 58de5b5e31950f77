-- What a caller learns of a command if the reply says no more than whether it was refused.
use Rattle.std.specs.Prelude.{◌≡◌, None, Result, Ok, Err}
use Rattle.pybuf_value.specs.declared.halt.Halt.{Halt}
use Rattle.pybuf_value.specs.declared.halt.Halt.TheVariants as halt
use Rattle.pybuf_command.specs.declared.commands.LocalReply.{LocalReply}
use Rattle.pybuf_command.specs.declared.commands.LocalReply.TheVariants as reply
use Rattle.pybuf_command.specs.Replies.{refusal_told}
use Rattle.pybuf_state.specs.Exporter.{Exporter}

-- The caller learns the exporter after the command, or the refusal. If memory runs out, the exporter is as it
-- was before.
abbrev pub TellsRefusal : Exporter × LocalReply → Exporter → Result (Unit {0}) Halt → Exporter → Type 0
TellsRefusal after old (Ok x) new = (after.0 ≡ new) × (refusal_told after.1 ≡ None)
TellsRefusal after old (Err (halt.Refused f)) new = after ≡ (new, reply.Refused f)
TellsRefusal after old (Err halt.NoMemory) new = new ≡ old

-- An exporter that gets one more view stays sound.
use Rattle.std.proofs.Common.{◌≡◌, sym, subst}
use Rattle.std.specs.Prelude.{Result, Ok, Err}
use Rattle.pybuf_value.specs.declared.halt.Halt.{Halt}
use Rattle.pybuf_value.specs.declared.halt.Halt.TheVariants as halt
use Rattle.pybuf_command.specs.declared.commands.LocalReply.{LocalReply}
use Rattle.pybuf_desc.specs.Layouts.{Layout}
use Rattle.pybuf_state.specs.Exporter.{Exporter, with_view}
use Rattle.pybuf_state.specs.Sound.{IsSoundExporter}
use Rattle.pybuf_state.specs.Answers.{Answers}

pub sound_after : (e new : Exporter) (layout : Layout) (r : Result LocalReply Halt) → Answers (Ok (with_view e layout)) e r new → IsSoundExporter (with_view e layout).0 → IsSoundExporter e → IsSoundExporter new
sound_after e new layout (Ok reply) answer more sound = subst IsSoundExporter (let same : (with_view e layout).0 ≡ new = cc in same) more
sound_after e new layout (Err (halt.Refused f)) answer more sound = absurd (cc)
sound_after e new layout (Err halt.NoMemory) answer more sound = subst IsSoundExporter (sym answer) sound

use Rattle.std.proofs.Common.{◌≡◌, ◌+◌, ◌-◌, vec_len}
use Rattle.pybuf_command.specs.declared.commands.LocalCommand.{LocalCommand}
use Rattle.pybuf_sessions.specs.Scripts.{added}
use Rattle.pybuf_sessions.proofs.scripts.fill.Given as goal

abbrev pub invariant-loop-alloc : goal.invariant-loop-alloc
invariant-loop-alloc l = (c : LocalCommand) → added l.session c l.scripts.items ≡ added l.session c l.initial.scripts.items

abbrev pub decreases-loop-alloc : goal.decreases-loop-alloc
decreases-loop-alloc l = l.session + 1 - vec_len l.scripts

use Rattle.std.proofs.Common.{◌≡◌, ◌+◌, List, length}
use Rattle.pybuf_command.specs.declared.worlds.Command.{Command}
use Rattle.pybuf_line.specs.Scalars.{handle_in}
use Rattle.pybuf_line.specs.Lines.{lines, commands_in, commands_from}
use Rattle.pybuf_line.proofs.Commands.{onto}
use Rattle.pybuf_line.proofs.inputs.check_lines.Given as goal

-- The lines so far are commands, and as many lines were read.
pub record Checked (Commands Count : Type 0) : Type 0 where
  pub commands : Commands
  pub count : Count

abbrev pub invariant-loop-line : goal.invariant-loop-line
invariant-loop-line l =
    Checked
    ((commands : List Command) × (commands_in handle_in l.input ≡ onto commands (commands_from handle_in (l.number + 1) (lines l.rest))))
    (l.number + length (lines l.rest) ≡ length (lines l.input))

abbrev pub decreases-loop-line : goal.decreases-loop-line
decreases-loop-line l = length (lines l.rest)

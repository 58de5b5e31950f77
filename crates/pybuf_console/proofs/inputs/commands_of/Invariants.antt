use Rattle.std.proofs.Common.{length}
use Rattle.pybuf_line.specs.Lines.{lines}
use Rattle.pybuf_console.proofs.Reading.{IsRead}
use Rattle.pybuf_console.proofs.inputs.commands_of.Given as goal

abbrev pub invariant-lines : goal.invariant-lines
invariant-lines l = IsRead l.input l.commands l.rest

abbrev pub decreases-lines : goal.decreases-lines
decreases-lines l = length (lines l.rest)

use Rattle.std.proofs.Common.{◌≡◌, ◌++◌, length}
use Rattle.pybuf_letters.specs.Lines.{split_lines}
use Rattle.pybuf_letters.proofs.lines.split_lines.Given as goal

abbrev pub decreases-loop-rest : goal.decreases-loop-rest
decreases-loop-rest l = length l.rest

abbrev pub invariant-loop-rest : goal.invariant-loop-rest
invariant-loop-rest l = l.lines.items ++ split_lines l.keep_ends l.rest ≡ split_lines l.keep_ends l.bytes

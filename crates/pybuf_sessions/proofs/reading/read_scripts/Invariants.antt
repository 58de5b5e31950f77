use Rattle.std.proofs.Common.{◌≡◌, ◌+◌, length}
use Rattle.pybuf_line.specs.Lines.{lines}
use Rattle.pybuf_sessions.specs.Sessions.{asks_from}
use Rattle.pybuf_sessions.proofs.Lines.{AskedSoFar}
use Rattle.pybuf_sessions.proofs.reading.read_scripts.Given as goal

-- what the lines so far ask for, and how many lines were read
pub record Read (Asked Count : Type 0) : Type 0 where
  pub asked : Asked
  pub count : Count

abbrev pub invariant-loop-line : goal.invariant-loop-line
invariant-loop-line l =
    Read
    (AskedSoFar (asks_from 2 (lines l.input)) l.scripts.items (l.number + 1) (lines l.rest))
    (l.number + length (lines l.rest) ≡ length (lines l.input) + 1)

abbrev pub decreases-loop-line : goal.decreases-loop-line
decreases-loop-line l = length (lines l.rest)

use Rattle.std.proofs.Common.{◌≡◌, ◌≤◌, [], length}
use Rattle.pybuf_line.specs.Lines.{lines}
use Rattle.pybuf_cli.proofs.ArrayRunning.{IsRunning}
use Rattle.pybuf_cli.proofs.arrays.run_lines.Given as goal

-- what was run and put so far, and that no reply is kept apart
pub record Runs (Lines Apart Later : Type 0) : Type 0 where
  pub lines : Lines
  pub apart : Apart
  pub later : Later

abbrev pub invariant-running : goal.invariant-running
invariant-running g l =
    Runs
    (IsRunning l.fn.code l.input l.rest l.array (g.K.Sink.bytes_held l.fn.sink) l.text.items (g.K.Sink.bytes_held l.sink))
    (l.reply.items ≡ [])
    (g.K.Sink.faults l.fn.sink ≤ g.K.Sink.faults l.sink)

abbrev pub decreases-running : goal.decreases-running
decreases-running g l = length (lines l.rest)

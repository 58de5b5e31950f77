use Rattle.std.proofs.Common.{◌≤◌, ◌-◌, length, take}
use Rattle.pybuf_cli.specs.Devices.{Put}
use Rattle.pybuf_cli.proofs.loops.write_all.Given as goal

-- the bytes that were put so far
pub record Writes (Held Later Within : Type 0) : Type 0 where
  pub held : Held
  pub later : Later
  pub within : Within

abbrev pub invariant-writing : goal.invariant-writing
invariant-writing g l =
    Writes
    (Put (g.K.Sink.bytes_held l.fn.sink) (take l.at l.text) (g.K.Sink.bytes_held l.sink))
    (g.K.Sink.faults l.fn.sink ≤ g.K.Sink.faults l.sink)
    (l.at ≤ length l.text)

abbrev pub decreases-writing : goal.decreases-writing
decreases-writing g l = length l.text - l.at

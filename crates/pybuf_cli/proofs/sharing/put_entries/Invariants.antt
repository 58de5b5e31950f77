use Rattle.std.proofs.Common.{◌≡◌, ◌≤◌, [], take}
use Rattle.std.specs.List.{flat_map}
use Rattle.pybuf_histories.specs.Entries.{entry_line}
use Rattle.pybuf_cli.specs.Devices.{Sends}
use Rattle.pybuf_cli.proofs.sharing.put_entries.Given as goal

-- what was put or waits so far, and that no line is kept apart
pub record Shows (Lines Apart Later : Type 0) : Type 0 where
  pub lines : Lines
  pub apart : Apart
  pub later : Later

abbrev pub invariant-loop-entry : goal.invariant-loop-entry
invariant-loop-entry g l =
    Shows
    (Sends (g.K.Sink.bytes_held l.fn.sink) (flat_map entry_line (take l.entry-index l.entries)) l.text.items (g.K.Sink.bytes_held l.sink))
    (l.line.items ≡ [])
    (g.K.Sink.faults l.fn.sink ≤ g.K.Sink.faults l.sink)

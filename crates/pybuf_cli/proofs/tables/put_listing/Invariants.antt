use Rattle.std.proofs.Common.{◌≡◌, ◌≤◌, [], length}
use Rattle.pybuf_table_lines.specs.Texts.{left_over}
use Rattle.pybuf_cli.proofs.Tabling.{IsTabling}
use Rattle.pybuf_cli.proofs.tables.put_listing.Given as goal

-- what was put or waits so far, that no line is kept apart, and that whole records are left
pub record Lists (Lines Apart Whole Later : Type 0) : Type 0 where
  pub lines : Lines
  pub apart : Apart
  pub whole : Whole
  pub later : Later

abbrev pub invariant-tabling : goal.invariant-tabling
invariant-tabling g l =
    Lists
    (IsTabling l.listing l.input l.rest (g.K.Sink.bytes_held l.fn.sink) l.text.items (g.K.Sink.bytes_held l.sink))
    (l.line.items ≡ [])
    (left_over l.listing l.rest ≡ 0)
    (g.K.Sink.faults l.fn.sink ≤ g.K.Sink.faults l.sink)

abbrev pub decreases-tabling : goal.decreases-tabling
decreases-tabling g l = length l.rest

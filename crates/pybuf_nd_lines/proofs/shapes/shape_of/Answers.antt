use Rattle.std.proofs.Common.{sym, ◌∙◌}
use Rattle.pybuf_nd_lines.proofs.Small.{entries_low}
use Rattle.pybuf_nd_lines.proofs.shapes.shape_of.Goals as goal

pub shape_of_entries-requires : goal.shape_of_entries-requires
shape_of_entries-requires c = entries_low c.as_slice.result.now c.in-Some.entries (sym c.in-Some.is ∙ c.in_ok-entries-in-List.ensures.entries)

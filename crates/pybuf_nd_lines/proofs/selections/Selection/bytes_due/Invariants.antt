use Rattle.std.proofs.Common.{◌≡◌, ◌*◌, drop}
use Rattle.pybuf_desc.specs.Layouts.{product}
use Rattle.pybuf_nd_lines.proofs.selections.Selection.bytes_due.Given as goal

abbrev pub invariant-loop-entries : goal.invariant-loop-entries
invariant-loop-entries l = product l.self.shape ≡ l.items * product (drop l.entries-index l.self.shape)

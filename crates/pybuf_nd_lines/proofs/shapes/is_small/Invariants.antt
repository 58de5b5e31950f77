use Rattle.std.proofs.Common.{◌≡◌, ◌*◌, ◌≤◌, drop}
use Rattle.pybuf_desc.specs.Layouts.{product}
use Rattle.pybuf_nd_lines.proofs.shapes.is_small.Given as goal

abbrev pub invariant-loop-entries : goal.invariant-loop-entries
invariant-loop-entries l = (product l.shape ≡ l.items * product (drop l.entries-index l.shape)) × (l.items ≤ 1048576)

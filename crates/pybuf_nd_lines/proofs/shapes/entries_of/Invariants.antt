use Rattle.std.proofs.Common.{◌≡◌, drop}
use Rattle.pybuf_nd_lines.specs.Shapes.{each_gives, entry_in}
use Rattle.pybuf_nd_lines.proofs.Given.{onto}
use Rattle.pybuf_nd_lines.proofs.shapes.entries_of.Given as goal

abbrev pub invariant-loop-part : goal.invariant-loop-part
invariant-loop-part l = each_gives entry_in l.parts ≡ onto l.entries (each_gives entry_in (drop l.part-index l.parts))

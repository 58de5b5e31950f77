use Rattle.std.proofs.Common.{◌≡◌, drop}
use Rattle.pybuf_nd_lines.specs.Shapes.{each_gives}
use Rattle.pybuf_nd_lines.specs.Keys.{parts_in}
use Rattle.pybuf_nd_lines.proofs.Given.{onto}
use Rattle.pybuf_nd_lines.proofs.keys.accepted_slices.Given as goal

abbrev pub invariant-loop-slice : goal.invariant-loop-slice
invariant-loop-slice l = each_gives parts_in l.slices ≡ onto l.accepted (each_gives parts_in (drop l.slice-index l.slices))

use Rattle.std.proofs.Common.{◌≡◌, drop}
use Rattle.pybuf_desc.specs.Descriptor.{shape_of}
use Rattle.pybuf_nd.specs.Selections.{has_zero}
use Rattle.pybuf_nd.proofs.made.has_zero_entry.Given as goal

abbrev pub invariant-loop-dim : goal.invariant-loop-dim
invariant-loop-dim l = has_zero (shape_of (drop l.dim-index l.dims)) ≡ has_zero (shape_of l.dims)

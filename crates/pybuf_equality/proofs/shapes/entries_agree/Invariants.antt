use Rattle.std.proofs.Common.{◌≡◌, drop}
use Rattle.pybuf_desc.specs.Descriptor.{shape_of}
use Rattle.pybuf_equality.specs.Equality.{shapes_agree}
use Rattle.pybuf_equality.proofs.shapes.entries_agree.Given as goal

abbrev pub invariant-loop-k : goal.invariant-loop-k
invariant-loop-k l = shapes_agree (shape_of (drop l.k l.dims)) (drop l.k l.shape) ≡ shapes_agree (shape_of l.dims) l.shape

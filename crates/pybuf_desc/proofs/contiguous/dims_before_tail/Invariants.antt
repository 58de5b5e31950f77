use Rattle.std.proofs.Common.{◌≡◌, ◌*◌, ◌≤◌, length, drop}
use Rattle.pybuf_desc.specs.Layouts.{product}
use Rattle.pybuf_desc.specs.Descriptor.{shape_of}
use Rattle.pybuf_desc.specs.RowMajor.{AreRowMajorStrides}
use Rattle.pybuf_desc.proofs.contiguous.dims_before_tail.Given as goal

abbrev pub decreases-loop-k : goal.decreases-loop-k
decreases-loop-k l = l.k

abbrev pub invariant-loop-k : goal.invariant-loop-k
invariant-loop-k l =
    (l.k ≤ length l.dims)
    × (l.size ≡ l.itemsize * product (shape_of (drop l.k l.dims)))
    × AreRowMajorStrides l.itemsize (drop l.k l.dims)

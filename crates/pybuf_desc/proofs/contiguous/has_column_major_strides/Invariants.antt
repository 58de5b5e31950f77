use Rattle.std.proofs.Common.{◌≡◌, ◌*◌, ◌↔◌, drop}
use Rattle.pybuf_desc.specs.Layouts.{product}
use Rattle.pybuf_desc.specs.Descriptor.{shape_of}
use Rattle.pybuf_desc.specs.ColumnMajor.{AreColumnMajorStrides}
use Rattle.pybuf_desc.proofs.contiguous.has_column_major_strides.Given as goal

abbrev pub invariant-loop-dim : goal.invariant-loop-dim
invariant-loop-dim l =
    (l.size * product (shape_of (drop l.dim-index l.dims)) ≡ l.itemsize * product (shape_of l.dims))
    × (AreColumnMajorStrides l.itemsize l.dims ↔ AreColumnMajorStrides l.size (drop l.dim-index l.dims))
